-- Lists that are cut into parts.
use Rattle.std.proofs.Common.{◌≡◌, ℕ, zero, suc, ◌+◌, ◌*◌, ◌/◌, ◌%◌, ◌<◌, ◌≤◌, take, drop, List, [], ◌∷◌, ◌++◌, length, get_or, refl, sym, ap, ◌∙◌, arith}
use Rattle.std.specs.List.{flat_map, range_with_len}
use Rattle.std.specs.Prelude.{All}
use Rattle.std.proofs.lemmas.Grind.{div_ceil_times}
use Rattle.std.proofs.lemmas.List.{drop-drop, drop_all, get_or-drop, get_or-take, length-drop, length-take, take_all}
use Rattle.std.proofs.lemmas.List.Elements.{All-drop, All-take}
use Rattle.std.proofs.lemmas.Nat.{div_below, div-add-mod', mod_below}
use Rattle.worker_gate.specs.Parts.{part_items, part_size}

-- the first of a list, and those after them
take_both : {X : Type 0} (i j : ℕ) (xs : List X) → take (i + j) xs ≡ take i xs ++ take j (drop i xs)
take_both {X} i j [] = none (i + j) ∙ sym (ap (λ ys. ys ++ take j (drop i [])) (none i) ∙ ap (take j) (drop_all i [] (omega arith)) ∙ none j)
  where
    none : (k : ℕ) → take {A = X} k [] ≡ []
    none k = take_all k [] (omega arith)
take_both zero j (x ∷ xs) = ap (λ k. take k (x ∷ xs)) (omega arith)
take_both (suc i) j (x ∷ xs) = ap (λ k. take k (x ∷ xs)) more ∙ ap (λ ys. x ∷ ys) (take_both i j xs)
  where
    more : suc i + j ≡ suc (i + j)
    more = omega arith

module _ {X : Type 0} (xs : List X) where
  -- some parts, one after the other, are that piece of the list
  parts_from : (size first count : ℕ) → flat_map (λ k. take size (drop (size * k) xs)) (range_with_len first count) ≡ take (size * count) (drop (size * first) xs)
  parts_from size first zero = sym (ap (λ k. take k (drop (size * first) xs)) (none size))
    where
      none : (n : ℕ) → n * 0 ≡ 0
      none n = grind arith
  parts_from size first (suc count) =
      ap (λ ys. take size (drop (size * first) xs) ++ ys) (parts_from size (first + 1) count ∙ ap (λ ys. take (size * count) ys) (ap (λ k. drop k xs) (next size first) ∙ sym (drop-drop size (size * first) xs)))
      ∙ sym (take_both size (size * count) (drop (size * first) xs))
      ∙ ap (λ k. take k (drop (size * first) xs)) (more size count)
    where
      next : (n k : ℕ) → n * (k + 1) ≡ n * k + n
      next n k = grind arith

      more : (n k : ℕ) → n + n * k ≡ n * suc k
      more n k = grind arith

  -- there are parts for all
  pub enough_parts : (parts : ℕ) → 0 < parts → length xs ≤ part_size xs parts * parts
  enough_parts parts some = (div_ceil_times (length xs) parts some).0

  pub all_parts : (parts : ℕ) → 0 < parts → flat_map (part_items xs parts) (range_with_len 0 parts) ≡ xs
  all_parts parts some =
      parts_from (part_size xs parts) 0 parts
      ∙ ap (λ k. take (part_size xs parts * parts) (drop k xs)) (none (part_size xs parts))
      ∙ take_all (part_size xs parts * parts) xs (enough_parts parts some)
    where
      none : (n : ℕ) → n * 0 ≡ 0
      none n = grind arith

  -- a part is no longer than the list
  pub part_short : (parts part : ℕ) → length (part_items xs parts part) ≤ length xs
  part_short parts part =
      let size : ℕ = part_size xs parts in
      let some = length-take size (drop (size * part) xs) in
      let rest = length-drop (size * part) xs in
      omega (arith, some, rest)

  -- an item of a part is one of the list
  pub part_item : (parts part n : ℕ) (d : X) → n < length (part_items xs parts part) → (part_size xs parts * part + n < length xs) × (get_or (part_items xs parts part) n d ≡ get_or xs (part_size xs parts * part + n) d)
  part_item parts part n d lt =
      let size : ℕ = part_size xs parts in
      let some = length-take size (drop (size * part) xs) in
      let rest = length-drop (size * part) xs in (
        omega (arith, lt, some, rest),
        get_or-take size (drop (size * part) xs) n d (omega (arith, lt, some)) ∙ get_or-drop (size * part) xs n d,
      )

  pub part_inside : (P : X → Type 0) (parts part : ℕ) → All P xs → All P (part_items xs parts part)
  part_inside P parts part all = All-take P (part_size xs parts) (drop (part_size xs parts * part) xs) (All-drop P (part_size xs parts * part) xs all)

  -- each item of the list is one of a part
  pub in_a_part : (parts : ℕ) → 0 < parts → (i : ℕ) → i < length xs → (part : ℕ) × (n : ℕ) × (part < parts) × (n < length (part_items xs parts part)) × ((d : X) → get_or (part_items xs parts part) n d ≡ get_or xs i d)
  in_a_part parts some i lt = (
    i / size,
    i % size,
    div_below i size parts filled (let enough = enough_parts parts some in let turned = turn size parts in omega (arith, lt, enough, turned)),
    inside,
    λ d. (part_item parts (i / size) (i % size) d inside).1 ∙ ap (λ k. get_or xs k d) whole,
  )
    where
      size : ℕ
      size = part_size xs parts

      turn : (n m : ℕ) → n * m ≡ m * n
      turn n m = grind arith

      none : (n : ℕ) → 0 * n ≡ 0
      none n = grind arith

      empty : part_size xs parts ≡ 0 → ⊥
      empty e = let enough = enough_parts parts some in let zero_is : part_size xs parts * parts ≡ 0 = ap (λ k. k * parts) e ∙ none parts in omega (arith, lt, enough, zero_is)

      above : (n : ℕ) → (n ≡ 0 → ⊥) → 0 < n
      above zero not = absurd (not refl)
      above (suc n) not = omega arith

      filled : 0 < part_size xs parts
      filled = above (part_size xs parts) empty

      whole : part_size xs parts * (i / size) + i % size ≡ i
      whole = let e = div-add-mod' i size in let t = turn size (i / size) in omega (arith, e, t)

      inside : i % size < length (part_items xs parts (i / size))
      inside =
          let at = length-take size (drop (size * (i / size)) xs) in
          let rest = length-drop (size * (i / size)) xs in
          let low = mod_below i size filled in
          let is = whole in
          omega (arith, at, rest, low, is, lt)

  -- one part is the whole list
  pub one_part : part_items xs 1 0 ≡ xs
  one_part =
      ap (λ k. take (part_size xs 1) (drop k xs)) (none (part_size xs 1))
      ∙ take_all (part_size xs 1) xs (let enough = enough_parts 1 (omega arith) in let one = single (part_size xs 1) in omega (arith, enough, one))
    where
      none : (n : ℕ) → n * 0 ≡ 0
      none n = grind arith

      single : (n : ℕ) → n * 1 ≡ n
      single n = grind arith
