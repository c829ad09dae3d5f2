-- The bytes of a buffer from one place to another.
use Rattle.std.proofs.Common.{◌≡◌, ℕ, ◌+◌, ◌-◌, ◌<◌, ◌≤◌, List, [], ◌∷◌, ◌++◌, length, take, drop, refl, sym, ◌∙◌, ap, arith, slice_range, Vec, vec_len, ◌⊎◌, inl, inr, Bool}
use Rattle.event_reader.specs.Reader.{LinesView}
use Rattle.std.specs.Vec.{with_items}
use Rattle.std.proofs.Math.Nat.{add-sub_cancel_left}
use Rattle.std.proofs.Math.Seq.{take-add}
use Rattle.std.proofs.lemmas.List.{with_items_is, drop-drop, drop-take, take-take}
use Rattle.std.proofs.lemmas.List.Edits.{length-between}

-- from a place on
range_on : (xs : List ℕ) (m n : ℕ) → slice_range xs m (m + n) ≡ take n (drop m xs)
range_on xs m n = ap (λ k. take k (drop m xs)) (add-sub_cancel_left m n)

-- from the front up to a place
range_from_front : (xs : List ℕ) (n : ℕ) → slice_range xs 0 n ≡ take n xs
range_from_front xs n = let same : n - 0 ≡ n = omega arith in ap (λ k. take k xs) same

-- the bytes up to a place, and those from there on
range_join : (xs : List ℕ) (m n : ℕ) → slice_range xs 0 (m + n) ≡ slice_range xs 0 m ++ slice_range xs m (m + n)
range_join xs m n = range_from_front xs (m + n) ∙ take-add m n xs ∙ rw (range_from_front xs m, range_on xs m n) refl

pub length-range : (xs : List ℕ) (m n : ℕ) → m + n ≤ length xs → length (slice_range xs m (m + n)) ≡ n
length-range xs m n inside = length-between xs m (m + n) inside ∙ add-sub_cancel_left m n

-- bytes that were moved to the front, with those that were read behind them
pub range_filled : (before moved after : List ℕ) (from to n : ℕ) → slice_range moved 0 (to - from) ≡ slice_range before from to
    → take (to - from) after ≡ take (to - from) moved
    → slice_range after 0 (to - from + n) ≡ slice_range before from to ++ slice_range after (to - from) (to - from + n)
range_filled before moved after from to n front kept =
    range_join after (to - from) n
    ∙ ap (λ xs. xs ++ slice_range after (to - from) (to - from + n))
    (range_from_front after (to - from) ∙ kept ∙ sym (range_from_front moved (to - from)) ∙ front)

-- a vector whose elements were changed twice in place has the last ones
pub twice_written : {A : Type 0} (v : Vec ℕ A) (xs ys : List ℕ) → length ys ≡ vec_len v → (with_items (with_items v xs) ys).items ≡ ys
twice_written v xs ys same = with_items_is (with_items v xs) ys same

-- the same with none read
pub range_kept : (before moved after : List ℕ) (from to : ℕ) → slice_range moved 0 (to - from) ≡ slice_range before from to
    → take (to - from) after ≡ take (to - from) moved → slice_range after 0 (to - from) ≡ slice_range before from to
range_kept before moved after from to front kept =
    range_from_front after (to - from) ∙ kept ∙ sym (range_from_front moved (to - from)) ∙ front

-- a list with items has a first
pub first_item : (xs : List ℕ) → 0 < length xs → (x : ℕ) × (more : List ℕ) × (xs ≡ x ∷ more)
first_item [] some = absurd (omega arith)
first_item (x ∷ more) some = (x, more, refl)

-- bytes that were asked for within a limit stay within it
pub within_limit : (got most taken limit : ℕ) → taken ≤ limit → got ≤ most → (0 < limit - taken → most ≤ limit - taken)
    → (0 < got × (limit - taken ≡ 0 → ⊥)) ⊎ (got ≤ 0) → taken + got ≤ limit
within_limit got most taken limit inside asked left (inl (some, open_left)) = grind arith
within_limit got most taken limit inside asked left (inr none) = omega arith

-- the bytes of a range without its first, and its first
pub range_rest : (xs : List ℕ) (from to used : ℕ) → from + used ≤ to → slice_range xs (from + used) to ≡ drop used (slice_range xs from to)
range_rest xs from to used inside =
    let size : used + (to - (from + used)) ≡ to - from = omega arith in
    ap (take (to - (from + used))) (sym (drop-drop used from xs))
    ∙ sym (drop-take used (to - (from + used)) (drop from xs))
    ∙ ap (λ n. drop used (take n (drop from xs))) size

pub range_first : (xs : List ℕ) (from to len : ℕ) → from + len ≤ to → slice_range xs from (from + len) ≡ take len (slice_range xs from to)
range_first xs from to len inside =
    let few : len ≤ to - from = omega arith in
    range_on xs from len ∙ sym (take-take len (to - from) (drop from xs) few)

-- a view with other bytes kept and another line
pub view_of : (kept kept' line line' : List ℕ) (number taken limit : ℕ) (ended live : Bool) → kept ≡ kept' → line ≡ line'
    → let v : LinesView = record { kept = kept; line = line; number = number; taken = taken; limit = limit; ended = ended; live = live } in
    v ≡ record { kept = kept'; line = line'; number = number; taken = taken; limit = limit; ended = ended; live = live }
view_of kept kept' line line' number taken limit ended live same_kept same_line = rw (same_kept, same_line) refl
