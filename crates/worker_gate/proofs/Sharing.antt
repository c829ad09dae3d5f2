-- What few items make of workers: the first one did them, and the others are as they were.
use Rattle.std.proofs.Common.{◌≡◌, ◌⊎◌, ℕ, zero, suc, ◌<◌, List, [], ◌∷◌, length, get_or, set, refl, inl, inr, arith}

module _ {W : Type 0} (changes : ℕ → W → W → Type 0) (y : W) where
  pub first_did : (ws : List W) (x d : W) → 0 < length ws → changes 0 (get_or ws 0 x) y → changes 0 (get_or ws 0 d) (get_or (set ws 0 y) 0 d)
  first_did [] x d some did = absurd (omega arith)
  first_did (w ∷ ws) x d some did = did

  pub others_same : (ws : List W) (i : ℕ) (d : W) → 0 < i → get_or (set ws 0 y) i d ≡ get_or ws i d
  others_same [] i d above = refl
  others_same (w ∷ ws) zero d above = absurd (omega arith)
  others_same (w ∷ ws) (suc i) d above = refl

  pub did_or_same : (ws : List W) (x : W) → 0 < length ws → changes 0 (get_or ws 0 x) y → (i : ℕ) (d : W) → changes i (get_or ws i d) (get_or (set ws 0 y) i d) ⊎ (get_or (set ws 0 y) i d ≡ get_or ws i d)
  did_or_same ws x some did zero d = inl (first_did ws x d some did)
  did_or_same ws x some did (suc i) d = inr (others_same ws (suc i) d (omega arith))
