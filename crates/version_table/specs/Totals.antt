-- The sum of the values of a table
use Rattle.std.specs.Prelude.{ℕ, sum_by}
use Rattle.std.specs.List.{range_with_len}
use Rattle.morph_base.specs.States.{State}

-- The sum of the values of a table that has `size` ids, in state s
abbrev pub total_of : State → (table size : ℕ) → ℕ
total_of s table size = sum_by (λ id. s (record { table = table; id = id })) (range_with_len 0 size)
