-- The numbers below n, and the sum of a table's values over them.
use Rattle.std.proofs.Common.{◌≡◌, ℕ, ◌+◌, ◌<◌, take, take_all, sum_by, get_or, length, ap, sym, ◌∙◌, arith}
use Rattle.std.specs.List.{range_with_len}
use Rattle.std.proofs.lemmas.List.Sums.{sum_by_more}
use Rattle.std.proofs.lemmas.List.FromFn.{get_or-range_with_len, length-range_with_len}
use Rattle.morph_base.specs.States.{State}
use Rattle.version_table.specs.Totals.{total_of}

-- each stands at its own place, and the first n are all of them
pub inside_range : (n i : ℕ) → i < n → i < length (range_with_len 0 n)
inside_range n i lt = rw length-range_with_len lt

pub all_of_range : (n i : ℕ) → i ≡ n → take i (range_with_len 0 n) ≡ range_with_len 0 n
all_of_range n i e = take_all i (range_with_len 0 n) (rw length-range_with_len (omega arith))

-- the sum of the first values, one value more
abbrev value_at : State → (table id : ℕ) → ℕ
value_at s table id = s (record { table = table; id = id })

pub total-more : (s : State) (table n id value total : ℕ) → id < n → value ≡ s (record { table = table; id = id }) →
    total ≡ sum_by (value_at s table) (take id (range_with_len 0 n)) → total + value ≡ sum_by (value_at s table) (take (id + 1) (range_with_len 0 n))
total-more s table n id value total lt is so_far =
    let here : get_or (range_with_len 0 n) id 0 ≡ id = get_or-range_with_len 0 n id 0 lt ∙ omega arith in
    ap (λ t. t + value) so_far
    ∙ ap (λ v. sum_by (value_at s table) (take id (range_with_len 0 n)) + v) (is ∙ ap (value_at s table) (sym here))
    ∙ sym (sum_by_more (value_at s table) (range_with_len 0 n) id 0 (inside_range n id lt))

pub total-all : (s : State) (table n id total : ℕ) → id ≡ n → total ≡ sum_by (value_at s table) (take id (range_with_len 0 n)) → total ≡ total_of s table n
total-all s table n id total all so_far = so_far ∙ ap (sum_by (value_at s table)) (all_of_range n id all)
