-- The numbers that a generator draws
use Rattle.std.specs.Prelude.{ℕ, zero, suc, ◌+◌, ◌*◌, ◌/◌, ◌%◌, ◌^◌}

-- The state after a draw: that of a linear congruential generator modulo 2^64
unfoldable pub next_state : ℕ → ℕ
next_state x = (x * 6364136223846793005 + 1442695040888963407) % 2 ^ 64

-- The number below n that a state gives, by its upper 31 bits
unfoldable pub drawn : (state n : ℕ) → ℕ
drawn state n = (state / 2 ^ 33) % n

-- The state after `count` draws
abbrev pub after_draws : (state count : ℕ) → ℕ
after_draws state zero = state
after_draws state (suc count) = next_state (after_draws state count)

-- The number below n of the draw at a place, from a state on. The first draw is at place 1
abbrev pub draw_at : (state place n : ℕ) → ℕ
draw_at state place n = drawn (after_draws state place) n
