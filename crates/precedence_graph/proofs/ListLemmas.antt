-- Lists that are made from a function of the place, and a write to one element of a list that was lent.
use Rattle.std.proofs.Common.{◌≡◌, ◌≢◌, ℕ, zero, suc, ◌+◌, ◌<◌, ◌≤◌, sum_by, List, [], ◌∷◌, ◌++◌, length, get_or, set, take, drop, map, replicate, refl, sym, ap, ◌∙◌, inl, inr, arith}
use Rattle.std.specs.List.{range_with_len}
use Rattle.std.proofs.lemmas.List.{length-set, length-replicate, get_or-replicate, take_at, map-set, get_or-map, get_or-set_same, get_or-set_other, get_or_default, same_lists, length-take, length-drop, get_or-take, get_or-drop}
use Rattle.std.proofs.lemmas.List.Folds.{fold-map}
use Rattle.std.proofs.lemmas.List.FromFn.{length-map-range_with_len, get_or-map-range_with_len}
use Rattle.std.proofs.lemmas.Bool.{cases_eq}
use Rattle.morph_base.specs.Graphs.{below}

module _ {X Y : Type 0} (f : X → Y) where
  -- `lists.as_mut_slice()[i]` became y, where f of it is h of what f of it was
  pub written_back : (h : Y → Y) (xs zs : List X) (i : ℕ) (r y : X) (d : Y) → xs ≡ zs → i < length zs → f y ≡ h (f (get_or xs i r)) → map f (take (length zs) (set xs i y ++ drop (length (set xs i y)) zs)) ≡ set (map f zs) i (h (get_or (map f zs) i d))
  written_back h xs zs i r y d e inside k =
      let long : length (set xs i y) ≡ length zs = length-set xs i y ∙ ap length e in
      let now : f y ≡ h (get_or (map f zs) i d) = k ∙ ap (λ ws. h (f (get_or ws i r))) e ∙ ap h (sym (get_or-map f zs i r d inside)) in
      ap (map f) (take_at (set xs i y) _ (length zs) long) ∙ map-set f xs i y ∙ ap (λ ws. set (map f ws) i (f y)) e ∙ ap (λ v. set (map f zs) i v) now

module _ {Y : Type 0} where
  pub length-map-below : (f : ℕ → Y) (n : ℕ) → length (map f (below n)) ≡ n
  length-map-below f n = length-map-range_with_len f 0 n

  pub get_or-map-below : (f : ℕ → Y) (n k : ℕ) (d : Y) → k < n → get_or (map f (below n)) k d ≡ f k
  get_or-map-below f n k d h = get_or-map-range_with_len f 0 n k k d h (omega arith)

  pub length_made : (f : ℕ → Y) (n : ℕ) (xs : List Y) → xs ≡ map f (below n) → length xs ≡ n
  length_made f n xs e = ap length e ∙ length-map-below f n

  -- a list of that length with these elements is it
  pub map-below_is : (f : ℕ → Y) (n : ℕ) (xs : List Y) → length xs ≡ n → ((k : ℕ) (d : Y) → k < n → get_or xs k d ≡ f k) → xs ≡ map f (below n)
  map-below_is f n xs long each =
      same_lists xs (map f (below n)) (long ∙ sym (length-map-below f n)) (λ k d h. let inside : k < n = omega arith in each k d inside ∙ sym (get_or-map-below f n k d inside))

  -- one write changes the function at one place
  pub set-map-below : (f g : ℕ → Y) (n i : ℕ) (y : Y) → i < n → g i ≡ y → ((k : ℕ) → k ≢ i → g k ≡ f k) → set (map f (below n)) i y ≡ map g (below n)
  set-map-below f g n i y inside here others =
      map-below_is g n (set (map f (below n)) i y) (length-set (map f (below n)) i y ∙ length-map-below f n)
      (λ k d h. elim (cases_eq k i) [
        | inl e ↦ let long : i < length (map f (below n)) = omega (arith, length-map-below f n) in ap (λ j. get_or (set (map f (below n)) i y) j d) e ∙ get_or-set_same (map f (below n)) i y d long ∙ sym here ∙ ap g (sym e)
        | inr ne ↦ get_or-set_other (map f (below n)) i k y d ne ∙ get_or-map-below f n k d h ∙ sym (others k ne)
      ])

  -- the same, where the new element is made from the old one
  pub set-map-below_by : (f g : ℕ → Y) (n i : ℕ) (h : Y → Y) (d : Y) (xs : List Y) → xs ≡ map f (below n) → i < n → g i ≡ h (f i) → ((k : ℕ) → k ≢ i → g k ≡ f k) → set xs i (h (get_or xs i d)) ≡ map g (below n)
  set-map-below_by f g n i h d xs e inside here others =
      ap (λ ys. set ys i (h (get_or ys i d))) e ∙ set-map-below f g n i (h (get_or (map f (below n)) i d)) inside (here ∙ ap h (sym (get_or-map-below f n i d inside))) others

  -- copies of one element, at a function that has it everywhere
  pub replicate_is : (f : ℕ → Y) (n : ℕ) (y : Y) → ((k : ℕ) → f k ≡ y) → replicate n y ≡ map f (below n)
  replicate_is f n y same =
      map-below_is f n (replicate n y) (length-replicate n y) (λ k d h. get_or-replicate n k y d h ∙ sym (same k))

module _ {X : Type 0} where
  -- a read of a mapped list, past its end too
  pub get_or-map_all : {Y : Type 0} (f : X → Y) (xs : List X) (i : ℕ) (d : X) → get_or (map f xs) i (f d) ≡ f (get_or xs i d)
  get_or-map_all f [] i d = refl
  get_or-map_all f (x ∷ xs) zero d = refl
  get_or-map_all f (x ∷ xs) (suc i) d = get_or-map_all f xs i d

  -- a sum over a list is one over its places
  pub sum_by-below : (f : X → ℕ) (xs : List X) (d : X) → sum_by f xs ≡ sum_by (λ n. f (get_or xs n d)) (below (length xs))
  sum_by-below f xs d =
      ap (sum_by f) (map-below_is (λ n. get_or xs n d) (length xs) xs refl (λ k e lt. get_or_default xs k e d lt)) ∙ fold-map (λ a x. a + f x) (λ n. get_or xs n d) 0 (below (length xs))

  -- the elements at these places are the part of the list
  pub map-range_is : (xs : List X) (first count : ℕ) (d : X) → first + count ≤ length xs → map (λ n. get_or xs n d) (range_with_len first count) ≡ take count (drop first xs)
  map-range_is xs first count d fits =
      same_lists (map (λ n. get_or xs n d) (range_with_len first count)) (take count (drop first xs)) (length-map-range_with_len (λ n. get_or xs n d) first count ∙ omega (arith, length-take count (drop first xs), length-drop first xs))
      (λ k e h. let inside : k < count = omega (arith, length-map-range_with_len (λ n. get_or xs n d) first count) in
      get_or-map-range_with_len (λ n. get_or xs n d) first count k (first + k) e inside refl ∙ get_or_default xs (first + k) d e (omega arith) ∙ sym (get_or-take count (drop first xs) k e inside ∙ get_or-drop first xs k e))
