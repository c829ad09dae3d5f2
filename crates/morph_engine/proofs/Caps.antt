-- The last attempts on what is not settled are few.
use Rattle.std.proofs.Common.{ℕ, ◌+◌, ◌*◌, ◌<◌, ◌≤◌, arith}
use Rattle.morph_base.specs.declared.strategy.Abort.{Abort}
use Rattle.morph_base.specs.declared.strategy.Abort.TheVariants.{Lazy, Eager}
use Rattle.morph_base.specs.Limits.{most_attempts}
use Rattle.morph_engine.specs.Caps.{cap_for}

pub cap_some : (a : Abort) → 1 ≤ cap_for a
cap_some Lazy = omega arith
cap_some Eager = omega arith

pub cap_small : (a : Abort) → cap_for a < most_attempts
cap_small Lazy = omega arith
cap_small Eager = omega arith

-- so few that the numbers of steps of a batch are not cut
pub attempts_few : (a : Abort) (n ops : ℕ) → n ≤ (cap_for a + 1) * ops → n ≤ 8 * ops
attempts_few Lazy n ops most = omega (arith, most)
attempts_few Eager n ops most = omega (arith, most)

pub rises_few : (a : Abort) (n ops : ℕ) → n ≤ cap_for a * ops → n ≤ 8 * ops
rises_few Lazy n ops most = omega (arith, most)
rises_few Eager n ops most = omega (arith, most)
