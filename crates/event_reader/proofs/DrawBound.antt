-- A draw is below its limit.
use Rattle.std.proofs.Common.{ℕ, ◌<◌, arith}
use Rattle.event_reader.specs.Draws.{drawn, draw_at}

pub draw_below : (state place n : ℕ) → 0 < n → draw_at state place n < n
unfolding drawn
draw_below state place n some = omega arith
