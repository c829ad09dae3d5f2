-- Versions of sources are values, and settled sources have the fold's values.
use Rattle.std.proofs.Common.{◌≡◌, ℕ, ◌<◌, ◌≤◌, true, List, length, get_or, take, map, refl, sym, ap, ◌∙◌, subst, inl, inr, ◌⊎◌, arith}
use Rattle.std.proofs.lemmas.Bool.{false≢true}
use Rattle.morph_base.specs.declared.plan.Origin.{Origin}
use Rattle.morph_base.specs.declared.plan.Origin.TheVariants.{Base, Op as Written}
use Rattle.morph_base.specs.declared.plan.Plan.{Plan}
use Rattle.morph_base.specs.declared.word.OpState.{OpState}
use Rattle.morph_base.specs.declared.word.OpState.TheVariants.{Blocked, Ready, Claimed, Executed, Failed, Spread, Settled, SettledAborted}
use Rattle.morph_base.specs.Plans.{high_of, IsPlan, op_count, op_at, origin_at, origins_of}
use Rattle.morph_base.specs.Clean.{from, source}
use Rattle.morph_base.specs.Known.{IsKnown, IsRight}
use Rattle.morph_base.specs.Words.{is_settled}
use Rattle.std.proofs.lemmas.List.{length-take, length-map, get_or-map, get_or-take, ext_get_or}
use Rattle.morph_base.proofs.OutcomeLaws.{source_precedes, keys_fit}
use Rattle.interleaving_core.specs.Core.{Core, places, IsSettledIn, value_in, IsSettledAs, IsVersion}
use Rattle.interleaving_core.specs.Soundness.{IsSoundAt, IsSound}

-- a settled state is one of two
pub settled_cases : (st : OpState) → is_settled st ≡ true → (st ≡ Settled) ⊎ (st ≡ SettledAborted)
settled_cases Blocked is = absurd (false≢true is)
settled_cases Ready is = absurd (false≢true is)
settled_cases Claimed is = absurd (false≢true is)
settled_cases Executed is = absurd (false≢true is)
settled_cases Failed is = absurd (false≢true is)
settled_cases Spread is = absurd (false≢true is)
settled_cases Settled is = inl refl
settled_cases SettledAborted is = inr refl

-- what is settled is a version
pub version_from_settled : (c : Core) (origin : Origin) (x : ℕ) → IsSettledAs c origin x → IsVersion c origin x
version_from_settled c (Base v) x is = is.1
version_from_settled c (Written s) x is = inl is

module _ (p : Plan) (cap : ℕ) (valid : IsPlan p) (c : Core) (sound : IsSound p cap c) where
  pub base_small : (o j v : ℕ) → o < op_count p → j < places p o → origin_at p o j ≡ Base v → v ≤ high_of p
  base_small = valid.small

  -- each version of a source is a value
  pub version_small : (o j x : ℕ) → o < op_count p → j < places p o → IsVersion c (origin_at p o j) x → x ≤ high_of p
  version_small o j x lt below is = of_origin (origin_at p o j) refl is
    where
      of_origin : (origin : Origin) → origin_at p o j ≡ origin → IsVersion c origin x → x ≤ high_of p
      of_origin (Base v) same is = let small : v ≤ high_of p = base_small o j v lt below same in omega arith
      of_origin (Written s) same is =
          elim is [
            | inl stands ↦
                let word : IsSoundAt p cap c s (c.word s) = sound.each_op s (source_precedes p o j s valid lt below same).in_range in
                let small : value_in c s ≤ high_of p = word.range.small in
                let value_is : value_in c s ≡ x = stands.1 in
                omega arith
            | inr seen ↦ let entry = sound.entries seen.entry seen.inside in subst (λ n. n ≤ high_of p) seen.value_is entry.1
          ]

  -- and so is the value of each settled source
  pub settled_small : (o j : ℕ) → o < op_count p → j < places p o → IsKnown (IsSettledIn c) (origin_at p o j) → source p (value_in c) o j ≤ high_of p
  settled_small o j lt below is =
      version_small o j (source p (value_in c) o j) lt below (version_from_settled c (origin_at p o j) (source p (value_in c) o j) (is, refl))

  -- settled words have the fold's values
  pub settled_right : IsRight p (IsSettledIn c) (value_in c)
  settled_right o lt is =
      let word : IsSoundAt p cap c o (c.word o) = sound.each_op o lt in
      elim (settled_cases (c.word o).state is) [ inl state ↦ (word.settled state).value_is | inr state ↦ (word.aborted state).value_is ]

-- the values of an operation's sources, as a list
pub sources_are : (p : Plan) (u : ℕ → ℕ) (o : ℕ) (xs : List ℕ) → IsPlan p → o < op_count p → length xs ≡ places p o
    → ((j : ℕ) → j < places p o → get_or xs j 0 ≡ source p u o j) → map (from u) (origins_of p o) ≡ xs
sources_are p u o xs valid lt len each =
    let n : ℕ = places p o in
    let origins : List Origin = (op_at p o).origins in
    let fits : n ≤ length origins = keys_fit p o valid lt in
    let taken : length (take n origins) ≡ n = length-take n origins ∙ omega arith in
    let mapped : length (map (from u) (take n origins)) ≡ n = length-map (take n origins) (from u) ∙ taken in
    ext_get_or 0 (map (from u) (take n origins)) xs (mapped ∙ sym len)
    (λ j below.
    let in_places : j < n = subst (λ m. j < m) mapped below in
    let in_taken : j < length (take n origins) = subst (λ m. j < m) (sym taken) in_places in
    get_or-map (from u) (take n origins) j (Base 0) 0 in_taken ∙ ap (from u) (get_or-take n origins j (Base 0) in_places) ∙ sym (each j in_places))
