-- Rows of a list, and the sources that words name.
use Rattle.std.proofs.Common.{◌≡◌, ℕ, suc, zero, ◌+◌, ◌-◌, ◌<◌, ◌≤◌, List, [], ◌∷◌, ◌++◌, length, get_or, set, take, drop, map, replicate, refl, sym, ap, ◌∙◌, arith, length-take, length-drop}
use Rattle.std.proofs.lemmas.List.{length-map, length-set, length-replicate, take-append-le, drop-append-le, take-set-le, drop-set-lt, drop-set-add, map-set, set-append_left, get_or-map, get_or-take, get_or-drop, get_or_append_left, drop_at, set_at, map_more, append_assoc, replicate-append-replicate}
use Rattle.std.proofs.lemmas.Grind.{common_steps}
use Rattle.morph_base.specs.declared.limits.TheConstants.{READS}
use Rattle.morph_base.specs.declared.plan.Origin.{Origin}
use Rattle.morph_base.specs.declared.plan.Origin.TheVariants.{Base}
use Rattle.morph_base.specs.OpParts.{origin_of, origins_in}

module _ {X : Type 0} where
  pub row-append : (n k : ℕ) (xs ys : List X) → k + n ≤ length xs → take n (drop k (xs ++ ys)) ≡ take n (drop k xs)
  row-append n k xs ys inside =
      ap (take n) (drop-append-le k xs ys (omega arith)) ∙ take-append-le n (drop k xs) ys (omega (arith, length-drop k xs))

  pub row_last : (n k : ℕ) (xs ys : List X) → k ≡ length xs → n ≡ length ys → take n (drop k (xs ++ ys)) ≡ ys
  row_last n k xs ys at long = ap (take n) (drop_at xs ys k (sym at)) ∙ all
    where
      all : take n ys ≡ ys
      all = grind (arith, common_steps)

  pub row-set_before : (n k i : ℕ) (xs : List X) (x : X) → i < k → take n (drop k (set xs i x)) ≡ take n (drop k xs)
  row-set_before n k i xs x before = ap (take n) (drop-set-lt k xs i x before)

  take-set_in : (n j : ℕ) (xs : List X) (x : X) → j < n → take n (set xs j x) ≡ set (take n xs) j x
  take-set_in zero j xs x inside = absurd (omega arith)
  take-set_in (suc n) j [] x inside = refl
  take-set_in (suc n) zero (y ∷ ys) x inside = refl
  take-set_in (suc n) (suc j) (y ∷ ys) x inside = ap (λ zs. y ∷ zs) (take-set_in n j ys x (omega arith))

  pub row-set_in : (n k j : ℕ) (xs : List X) (x : X) → j < n → take n (drop k (set xs (k + j) x)) ≡ set (take n (drop k xs)) j x
  row-set_in n k j xs x inside = ap (take n) (drop-set-add k xs j x) ∙ take-set_in n j (drop k xs) x inside

  set_far : (n k j : ℕ) (xs : List X) (x : X) → n ≤ j → take n (drop k (set xs (k + j) x)) ≡ take n (drop k xs)
  set_far n k j xs x far = ap (take n) (drop-set-add k xs j x) ∙ take-set-le n (drop k xs) j x far

  pub row-set_after : (n k i : ℕ) (xs : List X) (x : X) → k + n ≤ i → take n (drop k (set xs i x)) ≡ take n (drop k xs)
  row-set_after n k i xs x after =
      let apart : i ≡ k + (i - k) = omega arith in
      ap (λ (m : ℕ). take n (drop k (set xs m x))) apart ∙ set_far n k (i - k) xs x (omega arith)

  pub length_row : (n k : ℕ) (xs : List X) → k + n ≤ length xs → length (take n (drop k xs)) ≡ n
  length_row n k xs inside = simp (length-take, length-drop) (omega arith)

  pub get_or_row : (n k j : ℕ) (xs : List X) (d : X) → j < n → get_or (take n (drop k xs)) j d ≡ get_or xs (k + j) d
  get_or_row n k j xs d inside = get_or-take n (drop k xs) j d inside ∙ get_or-drop k xs j d

-- what words name
pub origin_at_word : (ws : List ℕ) (j : ℕ) (d : Origin) → j < length ws → get_or (origins_in ws) j d ≡ origin_of (get_or ws j 0)
origin_at_word ws j d inside =
    get_or_append_left (map origin_of ws) (replicate (READS - length ws) (Base 0)) d j (omega (arith, length-map ws origin_of)) ∙ get_or-map origin_of ws j 0 d inside

pub origins-set : (ws : List ℕ) (j w : ℕ) → j < length ws → origins_in (set ws j w) ≡ set (origins_in ws) j (origin_of w)
origins-set ws j w inside =
    let same : length (set ws j w) ≡ length ws = length-set ws j w in
    let front : map origin_of (set ws j w) ≡ set (map origin_of ws) j (origin_of w) = map-set origin_of ws j w in
    rw (same, front) (sym (set-append_left (map origin_of ws) (replicate (READS - length ws) (Base 0)) j (origin_of w) (omega (arith, length-map ws origin_of))))

-- words of 0 name bases of 0
blank_words : (k : ℕ) → map origin_of (replicate k 0) ≡ replicate k (Base 0)
blank_words zero = refl
blank_words (suc k) = ap (λ (os : List Origin). Base 0 ∷ os) (blank_words k)

pub blank_origins : (k : ℕ) → k ≤ READS → origins_in (replicate k 0) ≡ replicate READS (Base 0)
blank_origins k few =
    let long : length (replicate {A = ℕ} k 0) ≡ k = length-replicate k 0 in
    let all : k + (READS - k) ≡ READS = omega arith in
    rw (blank_words k, long)
    (replicate-append-replicate k (READS - k) (Base 0) ∙ ap (λ (n : ℕ). replicate n (Base 0)) all)

-- one source more
pub origins_more : (ws : List ℕ) (os : List Origin) (j : ℕ) (x : Origin) → j < length ws → length ws ≤ READS → os ≡ map origin_of (take j ws) ++ replicate (READS - j) (Base 0) → x ≡ origin_of (get_or ws j 0) →
    set os j x ≡ map origin_of (take (j + 1) ws) ++ replicate (READS - (j + 1)) (Base 0)
origins_more ws os j x inside few were is =
    let front : length (map origin_of (take j ws)) ≡ j = simp (length-map, length-take) (omega arith) in
    let left : READS - j ≡ suc (READS - (j + 1)) = omega arith in
    let rest : replicate (READS - j) (Base 0) ≡ Base 0 ∷ replicate (READS - (j + 1)) (Base 0) = ap (λ (n : ℕ). replicate n (Base 0)) left in
    let more : map origin_of (take (j + 1) ws) ≡ map origin_of (take j ws) ++ origin_of (get_or ws j 0) ∷ [] = map_more origin_of ws j 0 inside in
    ap (λ (l : List Origin). set l j x) (were ∙ ap (λ (l : List Origin). map origin_of (take j ws) ++ l) rest)
    ∙ set_at (map origin_of (take j ws)) (Base 0) (replicate (READS - (j + 1)) (Base 0)) x j front
    ∙ ap (λ (y : Origin). map origin_of (take j ws) ++ y ∷ replicate (READS - (j + 1)) (Base 0)) is
    ∙ sym (append_assoc (map origin_of (take j ws)) (origin_of (get_or ws j 0) ∷ []) (replicate (READS - (j + 1)) (Base 0)))
    ∙ ap (λ (l : List Origin). l ++ replicate (READS - (j + 1)) (Base 0)) (sym more)
