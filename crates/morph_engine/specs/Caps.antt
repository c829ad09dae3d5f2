-- How long operations may rest on what is not settled
use Rattle.std.specs.Prelude.{ℕ}
use Rattle.morph_base.specs.declared.strategy.Abort.{Abort}
use Rattle.morph_base.specs.declared.strategy.Abort.TheVariants.{Lazy, Eager}

-- The last attempt at which an operation may read what is not settled: 1 under lazy abort, 7 under eager abort
abbrev pub cap_for : Abort → ℕ
cap_for Lazy = 1
cap_for Eager = 7
