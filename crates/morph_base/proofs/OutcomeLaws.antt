-- What an operation answers on the values of its sources: where two assignments give the same answer, and that the fold's
-- values give the answer in the state before the event.
use Rattle.std.proofs.Common.{◌≡◌, ℕ, suc, ◌<◌, ◌≤◌, List, [], ◌∷◌, map, length, take, get_or, not-suc-le-zero, le_of_suc-le-suc, suc-le-suc, zero-lt-suc, refl, sym, ap, ◌∙◌, inl, inr, arith}
use Rattle.std.proofs.lemmas.List.{length-take, get_or-take}
use Rattle.std.proofs.lemmas.Bool.{cases_lt}
use Rattle.morph_base.specs.declared.limits.TheConstants.{READS}
use Rattle.morph_base.specs.declared.key.Key.{Key}
use Rattle.morph_base.specs.declared.plan.Origin.{Origin}
use Rattle.morph_base.specs.declared.plan.Origin.TheVariants.{Base, Op as Written}
use Rattle.morph_base.specs.declared.plan.Plan.{Plan}
use Rattle.morph_base.specs.Functions.{value_of}
use Rattle.morph_base.specs.Operations.{no_key}
use Rattle.morph_base.specs.States.{State, answer}
use Rattle.morph_base.specs.Plans.{IsPlan, op_count, op_at, event_of, keys_of, origin_at, HasBases, state_at, value_at}
use Rattle.morph_base.specs.Clean.{from, source, outcome}
use Rattle.morph_base.proofs.SourceLaws.{source_law}

-- ---- lists

pub map-agree : {X Y : Type 0} (f g : X → Y) (xs : List X) (d : X) → ((j : ℕ) → j < length xs → f (get_or xs j d) ≡ g (get_or xs j d)) → map f xs ≡ map g xs
map-agree f g [] d each = refl
map-agree {Y = Y} f g (x ∷ xs) d each =
    ap (λ y. y ∷ map f xs) (each 0 (zero-lt-suc (length xs)))
    ∙ ap (λ (ys : List Y). g x ∷ ys) (map-agree f g xs d (λ j lt. each (suc j) (suc-le-suc lt)))

-- one list under f is the front of the other under g
map-front : {X Y Z : Type 0} (f : X → Z) (g : Y → Z) (xs : List X) (ys : List Y) (d : X) (e : Y) → length xs ≤ length ys
    → ((j : ℕ) → j < length xs → f (get_or xs j d) ≡ g (get_or ys j e)) → map f xs ≡ map g (take (length xs) ys)
map-front f g [] ys d e short each = refl
map-front f g (x ∷ xs) [] d e short each = absurd (not-suc-le-zero short)
map-front {Z = Z} f g (x ∷ xs) (y ∷ ys) d e short each =
    ap (λ z. z ∷ map f xs) (each 0 (zero-lt-suc (length xs)))
    ∙ ap (λ (zs : List Z). g y ∷ zs) (map-front f g xs ys d e (le_of_suc-le-suc short) (λ j lt. each (suc j) (suc-le-suc lt)))

-- ---- sources

-- an operation has a place for each key that it reads
pub keys_fit : (p : Plan) (o : ℕ) → IsPlan p → o < op_count p → length (keys_of p o) ≤ length (op_at p o).origins
keys_fit p o valid lt =
    let shape = valid.numbering.shaped o lt in
    let few : (op_at p o).op.n_params < READS = shape.places in
    let places : length (op_at p o).origins ≡ READS = valid.places o lt in
    let params : List Key = (op_at p o).op.params in
    let taken : length (take (op_at p o).op.n_params params) ≤ (op_at p o).op.n_params = simp length-take (omega arith) in
    omega arith

-- an operation answers the same where its sources have the same values
pub outcome-same : (p : Plan) (v w : ℕ → ℕ) (o : ℕ) → ((j : ℕ) → j < length (keys_of p o) → source p v o j ≡ source p w o j) → outcome p v o ≡ outcome p w o
outcome-same p v w o each =
    let n : ℕ = length (keys_of p o) in
    let origins : List Origin = (op_at p o).origins in
    ap (value_of (op_at p o).op)
    (map-agree (from v) (from w) (take n origins) (Base 0)
    (λ j lt.
    let below : j < n = (let short = rw (length-take n origins) at lt in omega arith) in
    let found : get_or (take n origins) j (Base 0) ≡ origin_at p o j = get_or-take n origins j (Base 0) below in
    ap (from v) found ∙ each j below ∙ ap (from w) (sym found)))

-- the operation that a place reads from is of an earlier event, and has a smaller number
pub record Precedes (p : Plan) (t o : ℕ) : Type 0 where
  pub in_range : t < op_count p
  pub event_before : event_of p t < event_of p o
  pub number_before : t < o

pub source_precedes : (p : Plan) (o j t : ℕ) → IsPlan p → o < op_count p → j < length (keys_of p o) → origin_at p o j ≡ Written t → Precedes p t o
source_precedes p o j t valid lt below is =
    let last = rw is at (valid.sources o j lt below) in
    let event_before : event_of p t < event_of p o = last.itself.earlier in
    let number_before : t < o = elim (cases_lt t o) [
      | inl less ↦ less
      | inr more ↦ let order : event_of p o ≤ event_of p t = valid.numbering.in_order o t more last.itself.in_range in absurd (omega arith)
    ] in
    record { in_range = last.itself.in_range; event_before = event_before; number_before = number_before }

-- two assignments that agree on what precedes an operation give its sources the same values
pub source-same : (p : Plan) (v w : ℕ → ℕ) (o j : ℕ) → IsPlan p → o < op_count p → j < length (keys_of p o) → ((t : ℕ) → Precedes p t o → v t ≡ w t)
    → source p v o j ≡ source p w o j
source-same p v w o j valid lt below agree = of_origin (origin_at p o j) refl
  where
    of_origin : (origin : Origin) → origin_at p o j ≡ origin → from v origin ≡ from w origin
    of_origin (Base b) is = refl
    of_origin (Written t) is = agree t (source_precedes p o j t valid lt below is)

-- ---- the fold's values

-- the fold's values give an operation the answer that it has in the state before its event
pub outcome-answer : (p : Plan) (s : State) (o : ℕ) → IsPlan p → HasBases p s → o < op_count p
    → outcome p (value_at p s) o ≡ answer (state_at p s (event_of p o)) (op_at p o).op
outcome-answer p s o valid based lt =
    ap (value_of (op_at p o).op)
    (sym (map-front (state_at p s (event_of p o)) (from (value_at p s)) (keys_of p o) (op_at p o).origins no_key (Base 0)
    (keys_fit p o valid lt) (λ j below. source_law p s o j valid based lt below)))
