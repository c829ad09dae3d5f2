-- Each line that the generator of GrepSum writes is an event's
use Rattle.std.proofs.Common.{◌≡◌, ℕ, zero, suc, ◌+◌, ◌-◌, ◌%◌, ◌<◌, ◌≤◌, Bool, true, false, List, [], ◌∷◌, length, map, replicate, refl, sym, ◌∙◌, ap, arith, inl, inr, Result, Ok}
use Rattle.std.specs.Prelude.{◌==◌, ◌||◌, if◌then◌else◌, nat_le, nat_lt}
use Rattle.std.specs.List.{All}
use Rattle.std.proofs.Math.Nat.{add-mod_right, mod-eq_of_lt}
use Rattle.std.proofs.lemmas.Bool.{cases_lt}
use Rattle.std.proofs.lemmas.Bool.Decides.{nat_tests}
use Rattle.std.proofs.lemmas.List.Elements.{All-nil, All-cons, All-head, All-tail}
use Rattle.morph_base.specs.Transactions.{Transaction}
use Rattle.event_reader.specs.Forms.{IsForm}
use Rattle.event_reader.specs.Limits.{generated_events, generated_ids}
use Rattle.event_reader.specs.declared.cause.Cause.{Cause}
use Rattle.event_reader.specs.Draws.{after_draws, draw_at}
use Rattle.event_reader.specs.declared.version.Version.TheVariants.{One}
use Rattle.event_reader.specs.Generated.{Drawn, IsEventLine}
use Rattle.event_reader.specs.Numbers.{are_in}
use Rattle.event_reader.specs.PlainLines.{plain_line}
use Rattle.event_reader.specs.Keys.{are_distinct}
use Rattle.event_reader.specs.Ranges.{times, ids, amounts}
use Rattle.event_reader.proofs.DrawBound.{draw_below}
use Rattle.event_reader.proofs.NumberLists.{in_range}
use Rattle.event_reader.proofs.Forms.{Fits, is_form, kind_line}
use Rattle.grep_app.specs.Grep.{cell, most_cells, setting, gather, gathering, settings, sums, grep_kinds, grep_event}
use Rattle.grep_app.specs.GrepDraws.{summed, drawn_setting, drawn_sum, grep_drawn}

abbrev ok : Transaction → Result Transaction Cause
ok e = Ok e

-- The line that sets a cell
setting_form : (size : ℕ) → size ≤ generated_ids → IsForm (settings One size).form
setting_form size few =
    is_form (settings One size).form (omega arith) (omega arith) (omega arith, (omega arith, (omega arith, tt))) (omega arith)

setting_fits : (size i k v : ℕ) → 0 < i → i ≤ generated_events → k < size → v < 1000 → Fits (settings One size).form (i ∷ k ∷ v ∷ [])
unfolding are_in
setting_fits size i k v start last inside small = record {
  count = refl;
  inside = rw (
    in_range times i (omega arith) (omega arith),
    in_range (ids size) k (omega arith) (omega arith),
    in_range (amounts One) v (omega arith) (omega arith),
  ) refl;
}

setting_line : (size i k v : ℕ) → size ≤ generated_ids → 0 < i → i ≤ generated_events → k < size → v < 1000
    → IsEventLine (grep_event size One) i (plain_line 87 (i ∷ k ∷ v ∷ []))
setting_line size i k v few start last inside small =
    kind_line (grep_kinds One size) (settings One size) i (i ∷ k ∷ v ∷ []) (setting One i k v) (setting_form size few)
    (setting_fits size i k v start last inside small) (omega arith) (omega arith) refl refl refl

-- Of the numbers below twice the size, two that are less than the size apart differ modulo the size
once_around : (size n : ℕ) → size ≤ n → n < size + size → n % size ≡ n - size
once_around size n low high =
    let sum : n ≡ n - size + size = omega arith in
    let small : n - size < size = omega arith in
    ap (λ m. m % size) sum ∙ add-mod_right (n - size) size ∙ mod-eq_of_lt small

apart : (size n m : ℕ) → n < m → m < n + size → m < size + size → (n % size == m % size) ≡ false
apart size n m less near high = elim (cases_lt n size) [
  | inl front ↦ elim (cases_lt m size) [
    | inl front' ↦ let differ : (n == m) ≡ false = grind (arith, nat_tests) in rw (mod-eq_of_lt front, mod-eq_of_lt front') differ
    | inr back' ↦ let differ : (n == m - size) ≡ false = grind (arith, nat_tests) in rw (mod-eq_of_lt front, once_around size m back' high) differ
  ]
  | inr back ↦
      let differ : (n - size == m - size) ≡ false = grind (arith, nat_tests) in
      rw (once_around size n back (omega arith), once_around size m (omega arith) high) differ
]

-- A cell and the cells after it therefore differ
unlike : (size k n m : ℕ) → k < size → n < m → m < size → ((k + n) % size == (k + m) % size) ≡ false
unlike size k n m inside less near = apart size (k + n) (k + m) (omega arith) (omega arith) (omega arith)

unlike_first : (size k n : ℕ) → k < size → 0 < n → n < size → (k == (k + n) % size) ≡ false
unlike_first size k n inside some near =
    let here : (k + 0) % size ≡ k = ap (λ m. m % size) (let same : k + 0 ≡ k = omega arith in same) ∙ mod-eq_of_lt inside in
    ap (λ m. m == (k + n) % size) (sym here) ∙ unlike size k 0 n inside some near

-- Cells that differ
two_apart : (k a : ℕ) → (k == a) ≡ false → are_distinct (cell k ∷ cell a ∷ []) ≡ true
unfolding are_distinct
two_apart k a h = rw h refl

three_apart : (k a b : ℕ) → (k == a) ≡ false → (k == b) ≡ false → (a == b) ≡ false → are_distinct (cell k ∷ cell a ∷ cell b ∷ []) ≡ true
unfolding are_distinct
three_apart k a b h1 h2 h3 = rw (h1, h2, h3) refl

four_apart : (k a b c : ℕ) → (k == a) ≡ false → (k == b) ≡ false → (k == c) ≡ false → (a == b) ≡ false → (a == c) ≡ false → (b == c) ≡ false
    → are_distinct (cell k ∷ cell a ∷ cell b ∷ cell c ∷ []) ≡ true
unfolding are_distinct
four_apart k a b c h1 h2 h3 h4 h5 h6 = rw (h1, h2, h3, h4, h5, h6) refl

-- The line that sums cells: its numbers are in their ranges, and say the sum if the cells differ
sum_is_form : (size : ℕ) → size ≤ generated_ids → IsForm (sums One size).form
sum_is_form size few =
    is_form (sums One size).form (omega arith) (omega arith) (omega arith, (omega arith, (omega arith, tt))) (omega arith)

ids_in : (size many : ℕ) (cells : List ℕ) → All (λ c. c < size) cells → are_in (replicate many (ids size)) cells ≡ true
unfolding are_in
ids_in size zero cells inside = refl
ids_in size (suc many) [] inside = refl
ids_in size (suc many) (c ∷ cells) inside =
    let here = All-head (λ c. c < size) c cells inside in
    rw (in_range (ids size) c (omega arith) (omega arith), ids_in size many cells (All-tail (λ c. c < size) c cells inside)) refl

sum_fits : (size i k limit : ℕ) (cells : List ℕ) → 0 < i → i ≤ generated_events → k < size → limit < 4000 → All (λ c. c < size) cells
    → 0 < length cells → length cells ≤ most_cells One → Fits (sums One size).form (i ∷ k ∷ limit ∷ cells)
unfolding are_in
sum_fits size i k limit cells start last inside small all some few =
    let least : nat_le 4 (length (i ∷ k ∷ limit ∷ cells)) ≡ true = grind (arith, nat_tests) in
    let most : nat_le (length (i ∷ k ∷ limit ∷ cells)) (3 + most_cells One) ≡ true = grind (arith, nat_tests) in record {
      count = rw (least, most) refl;
      inside = rw (
        in_range times i (omega arith) (omega arith),
        in_range (ids size) k (omega arith) (omega arith),
        in_range (amounts One) limit (omega arith) (omega arith),
        ids_in size (length (i ∷ k ∷ limit ∷ cells) - 3) cells all,
      ) refl;
    }

sum_line : (size i k many limit : ℕ) → 3 < size → size ≤ generated_ids → 0 < i → i ≤ generated_events → k < size → many < 3 → limit < 4000
    → IsEventLine (grep_event size One) i (plain_line 71 (summed size i k (many + 1) limit))
sum_line size i k many limit four few start last inside some small = by_many many some
  where
    a : ℕ
    a = (k + 1) % size

    b : ℕ
    b = (k + 2) % size

    c : ℕ
    c = (k + 3) % size

    all_one : (n : ℕ) → All (λ c. c < size) ((k + n) % size ∷ [])
    all_one n = All-cons (λ c. c < size) ((k + n) % size) [] (omega arith) (All-nil (λ c. c < size))

    all_two : All (λ c. c < size) (a ∷ b ∷ [])
    all_two = All-cons (λ c. c < size) a (b ∷ []) (omega arith) (all_one 2)

    all_three : All (λ c. c < size) (a ∷ b ∷ c ∷ [])
    all_three = All-cons (λ c. c < size) a (b ∷ c ∷ []) (omega arith) (All-cons (λ c. c < size) b (c ∷ []) (omega arith) (all_one 3))

    first : (n : ℕ) → 0 < n → n < 4 → (k == (k + n) % size) ≡ false
    first n some near = unlike_first size k n inside some (omega arith)

    later : (n m : ℕ) → n < m → m < 4 → ((k + n) % size == (k + m) % size) ≡ false
    later n m less near = unlike size k n m inside less (omega arith)

    line : (cells : List ℕ) → 0 < length cells → length cells ≤ most_cells One → All (λ c. c < size) cells → are_distinct (cell k ∷ map cell cells) ≡ true
        → IsEventLine (grep_event size One) i (plain_line 71 (i ∷ k ∷ limit ∷ cells))
    line cells one three all differ =
        let says : gather One i limit (cell k) (map cell cells) ≡ ok (gathering One i limit (cell k) (map cell cells)) = rw differ refl in
        kind_line (grep_kinds One size) (sums One size) i (i ∷ k ∷ limit ∷ cells) (gathering One i limit (cell k) (map cell cells)) (sum_is_form size few)
        (sum_fits size i k limit cells start last inside small all one three) (omega arith) (omega arith) refl says refl

    by_many : (n : ℕ) → n < 3 → IsEventLine (grep_event size One) i (plain_line 71 (summed size i k (n + 1) limit))
    by_many zero below = line (a ∷ []) (omega arith) (omega arith) (all_one 1) (two_apart k a (first 1 (omega arith) (omega arith)))
    by_many (suc zero) below =
        line (a ∷ b ∷ []) (omega arith) (omega arith) all_two
        (three_apart k a b (first 1 (omega arith) (omega arith)) (first 2 (omega arith) (omega arith)) (later 1 2 (omega arith) (omega arith)))
    by_many (suc (suc zero)) below =
        line (a ∷ b ∷ c ∷ []) (omega arith) (omega arith) all_three
        (four_apart k a b c (first 1 (omega arith) (omega arith)) (first 2 (omega arith) (omega arith)) (first 3 (omega arith) (omega arith))
        (later 1 2 (omega arith) (omega arith)) (later 1 3 (omega arith) (omega arith)) (later 2 3 (omega arith) (omega arith)))
    by_many (suc (suc (suc n))) below = absurd (omega arith)

-- Each line that the generator writes is an event's, at the time of its number
pub grep_generates : (size i state : ℕ) → 0 < size → size ≤ generated_ids → 0 < i → i ≤ generated_events
    → IsEventLine (grep_event size One) i (grep_drawn size i state).line
grep_generates size i state some few start last = by_choice (draw_at state 1 2 == 0) (nat_lt size 4) refl
  where
    after : ℕ
    after = after_draws state 1

    setting_at : IsEventLine (grep_event size One) i (plain_line 87 (drawn_setting size i after))
    setting_at = setting_line size i _ _ few start last (draw_below after 1 size some) (draw_below after 2 1000 (omega arith))

    sum_at : 3 < size → IsEventLine (grep_event size One) i (plain_line 71 (drawn_sum size i after))
    sum_at four =
        sum_line size i (draw_at after 1 size) (draw_at after 2 3) (draw_at after 3 4000) four few start last (draw_below after 1 size some)
        (draw_below after 2 3 (omega arith)) (draw_below after 3 4000 (omega arith))

    chosen : (set : Bool) → Drawn
    chosen set =
        if set then record { line = plain_line 87 (drawn_setting size i after); state = after_draws state 3 }
        else record { line = plain_line 71 (drawn_sum size i after); state = after_draws state 4 }

    by_choice : (first small : Bool) → nat_lt size 4 ≡ small → IsEventLine (grep_event size One) i (chosen (first || small)).line
    by_choice true small is = setting_at
    by_choice false true is = setting_at
    by_choice false false is = let four : 3 < size = grind (arith, nat_tests) in sum_at four
