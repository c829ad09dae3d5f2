-- The function table: the value of an operation on the values that it reads, or None if it fails
use Rattle.std.specs.Prelude.{ℕ, ◌+◌, ◌-◌, ◌*◌, ◌/◌, ◌&&◌, ◌==◌, if◌then◌else◌, nat_le, nat_lt, List, drop, sum, slice_index, Option, Some, None}
use Rattle.morph_base.specs.declared.operation.Func.{Func}
use Rattle.morph_base.specs.declared.operation.Func.TheVariants.{Keep, Add, Sub, MoveIn, Sum, Blend, Set, Enter, Charge}
use Rattle.morph_base.specs.declared.operation.Op.{Op}

-- The value v, or None if it is above the limit
abbrev pub at_most : ℕ → ℕ → Option ℕ
at_most limit v = if nat_le v limit then Some v else None

-- Linear Road's toll, from a segment's average speed in hundredths of a mile per hour and its count of entries: twice
-- the square of what the count has above 50, if the speed is below 4000 and the count above 50, and else 0
abbrev pub toll : ℕ → ℕ → ℕ
toll speed count = if nat_lt speed 4000 && nat_lt 50 count then 2 * ((count - 50) * (count - 50)) else 0

-- The table itself: what a function makes of its constant c, the target's value x and the parameters' values ps, with
-- `low` as the floor and `high` as the greatest value; None if the function fails
abbrev pub result_of : (low high : ℕ) → Func → (c x : ℕ) → List ℕ → Option ℕ
result_of low high Keep c x ps = Some x
result_of low high Add c x ps = at_most high (x + c)
result_of low high Sub c x ps = if nat_lt x (c + low) then None else Some (x - c)
result_of low high MoveIn c x ps = if nat_lt (slice_index ps 0) (c + low) then None else at_most high (x + c)
result_of low high Sum c x ps = at_most c (sum ps)
result_of low high Blend c x ps = if x == 0 then Some c else Some ((x + c) / 2)
result_of low high Set c x ps = Some c
result_of low high Enter c x ps = if slice_index ps 0 == c then Some x else at_most high (x + 1)
result_of low high Charge c x ps = at_most c (x + toll (slice_index ps 0) (slice_index ps 1))

-- The value of an operation on the values xs of its places, the target's first; None if the operation fails
unfoldable pub value_of : Op → List ℕ → Option ℕ
value_of op xs = result_of op.low op.high op.func op.c (slice_index xs 0) (drop 1 xs)
