-- An item that is linked once to each operation among some sources: one source more.
use Rattle.std.proofs.Common.{◌≡◌, ℕ, ◌+◌, ◌<◌, ◌≤◌, Bool, true, false, cond, eqb, List, [], ◌∷◌, ◌++◌, length, get_or, take, refl, sym, ap, subst, ◌∙◌, arith}
use Rattle.std.specs.Prelude.{◌||◌, All}
use Rattle.std.specs.List.{list_any}
use Rattle.std.proofs.lemmas.List.{append-nil, length-take-le, get_or-take}
use Rattle.std.proofs.lemmas.List.Elements.{All-head, All-tail}
use Rattle.std.proofs.lemmas.List.Folds.{list_any_more}
use Rattle.std.proofs.lemmas.Bool.{eqb-true, true≢false}
use Rattle.morph_base.specs.declared.limits.TheConstants.{READS}
use Rattle.morph_base.specs.declared.plan.Origin.{Origin}
use Rattle.morph_base.specs.declared.plan.Origin.TheVariants.{Base, Op as Written}
use Rattle.morph_base.specs.declared.plan.PlanOp.{PlanOp}
use Rattle.morph_base.specs.Graphs.{is_written_by}
use Rattle.morph_base.specs.Operations.{reads}
use Rattle.precedence_graph.specs.Planned.{IsAmong, sources_of}

or_false : (a : Bool) → (a || false) ≡ a
or_false true = refl
or_false false = refl

or_known : (a b : Bool) → (b ≡ true → a ≡ true) → (a || b) ≡ a
or_known true b old = refl
or_known false true old = sym (old refl)
or_known false false old = refl

once : (a b : Bool) (item : ℕ) (ys : List ℕ) → (b ≡ true → a ≡ false) → (ys ++ cond a (item ∷ []) []) ++ cond b (item ∷ []) [] ≡ ys ++ cond (a || b) (item ∷ []) []
once true true item ys new = absurd (true≢false (new refl))
once true false item ys new = append-nil (ys ++ item ∷ [])
once false b item ys new = ap (λ zs. zs ++ cond b (item ∷ []) []) (append-nil ys)

module _ (sources : List Origin) (j : ℕ) (inside : j < length sources) where
  -- whether operation o is the source at one of the first places
  abbrev pub reads_before : ℕ → ℕ → Bool
  reads_before n o = list_any (is_written_by o) (take n sources)

  one_more : (origin : Origin) (o : ℕ) → get_or sources j (Base 0) ≡ origin → reads_before (j + 1) o ≡ (reads_before j o || is_written_by o origin)
  one_more origin o is =
      list_any_more (is_written_by o) sources j (Base 0) inside ∙ ap (λ x. reads_before j o || is_written_by o x) is

  -- a base adds no operation, and one that is there already adds none
  pub read_base : (v o : ℕ) → get_or sources j (Base 0) ≡ Base v → reads_before (j + 1) o ≡ reads_before j o
  read_base v o is = one_more (Base v) o is ∙ or_false (reads_before j o)

  pub read_again : (s o : ℕ) → get_or sources j (Base 0) ≡ Written s → reads_before j s ≡ true → reads_before (j + 1) o ≡ reads_before j o
  read_again s o is there =
      one_more (Written s) o is ∙ or_known (reads_before j o) (eqb s o) (λ same. ap (reads_before j) (sym (eqb-true s o same)) ∙ there)

  -- one that is not there yet is added
  pub read_once : (s o item : ℕ) (ys : List ℕ) → get_or sources j (Base 0) ≡ Written s → reads_before j s ≡ false → (ys ++ cond (reads_before j o) (item ∷ []) []) ++ cond (eqb s o) (item ∷ []) [] ≡ ys ++ cond (reads_before (j + 1) o) (item ∷ []) []
  read_once s o item ys is absent =
      once (reads_before j o) (eqb s o) item ys (λ same. ap (reads_before j) (sym (eqb-true s o same)) ∙ absent) ∙ ap (λ b. ys ++ cond b (item ∷ []) []) (sym (one_more (Written s) o is))

  pub read_among : (n s : ℕ) → get_or sources j (Base 0) ≡ Written s → All (IsAmong n) sources → s < n
  read_among n s is among = subst (IsAmong n) is (among j (Base 0) inside)

-- where all sources are bases, no operation is among them
pub none_read : (o : ℕ) (sources : List Origin) → All (IsAmong 0) sources → list_any (is_written_by o) sources ≡ false
none_read o [] all = refl
none_read o (Base v ∷ sources) all = none_read o sources (All-tail (IsAmong 0) (Base v) sources all)
none_read o (Written s ∷ sources) all = (let below : s < 0 = All-head (IsAmong 0) (Written s) sources all in absurd (omega arith))

-- the source of a place that is read
pub used_source : (q : PlanOp) (j : ℕ) → length q.origins ≡ READS → length (reads q.op) ≤ READS → j < length (reads q.op)
    → (j < length (sources_of q)) × (get_or (sources_of q) j (Base 0) ≡ get_or q.origins j (Base 0)) × (length (sources_of q) ≡ length (reads q.op))
used_source q j whole few inside =
    let many = length-take-le (length (reads q.op)) q.origins (omega (arith, whole, few)) in
    (omega (arith, many, inside), get_or-take (length (reads q.op)) q.origins j (Base 0) inside, many)
