-- What became of the events of a batch, counted.
use Rattle.std.proofs.Common.{map, get_or, Bool, true, false, ◌-◌, ◌≡◌, ◌+◌, ◌≤◌, List, [], ◌∷◌, length, sum, refl, ap, sym, ◌∙◌, arith, cond}
use Rattle.std.specs.Prelude.{not, count_by}
use Rattle.std.proofs.lemmas.Simd.{map-map}
use Rattle.std.proofs.lemmas.List.FromFn.{length-map-range_with_len, fill_by_all}
use Rattle.std.proofs.lemmas.List.Sums.{sum-map, sum_by-cons, count_by-le-length}
use Rattle.morph_base.specs.declared.plan.Plan.{Plan}
use Rattle.morph_base.specs.declared.plan.Settled.{Settled}
use Rattle.morph_base.specs.Outcomes.{Fate}
use Rattle.morph_base.specs.Plans.{IsSettledOf, event_count}
use Rattle.morph_base.specs.Graphs.{below}
use Rattle.morph_engine.specs.Fates.{settled_fate, settled_fates}
use Rattle.run_text.specs.Text.{committed_in, aborted_in}

-- how many pass a test, of images
count_by-map : {X Y : Type 0} (test : Y → Bool) (f : X → Y) (xs : List X) → count_by test (map f xs) ≡ count_by (λ x. test (f x)) xs
count_by-map test f xs =
    sym (sum-map (λ y. cond (test y) 1 0) (map f xs)) ∙ ap sum (map-map (λ y. cond (test y) 1 0) f xs) ∙ sum-map (λ x. cond (test (f x)) 1 0) xs

-- each verdict commits or aborts
verdicts-both : (vs : List Bool) → count_by (λ v. v) vs + count_by not vs ≡ length vs
verdicts-both [] = refl
verdicts-both (true ∷ vs) =
    let rest = verdicts-both vs in
    omega (arith, rest, sum_by-cons (λ v. cond v 1 0) true vs, sum_by-cons (λ v. cond (not v) 1 0) true vs)
verdicts-both (false ∷ vs) =
    let rest = verdicts-both vs in
    omega (arith, rest, sum_by-cons (λ v. cond v 1 0) false vs, sum_by-cons (λ v. cond (not v) 1 0) false vs)

-- what was settled of a plan has as many commits and aborts as its verdicts
verdicts-are : (p : Plan) (r : Settled) → IsSettledOf p r → map (λ i. get_or r.committed.items i false) (below (event_count p)) ≡ r.committed.items
verdicts-are p r settled = sym (fill_by_all (λ i. get_or r.committed.items i false) r.committed.items (event_count p) false settled.verdicts (λ k lt. refl))

pub committed-settled : (p : Plan) (r : Settled) → IsSettledOf p r → committed_in (settled_fates p r) ≡ count_by (λ v. v) r.committed.items
committed-settled p r settled =
    count_by-map (λ (f : Fate). f.committed) (settled_fate p r) (below (event_count p))
    ∙ sym (count_by-map (λ v. v) (λ i. get_or r.committed.items i false) (below (event_count p))) ∙ ap (count_by (λ v. v)) (verdicts-are p r settled)

pub aborted-settled : (p : Plan) (r : Settled) → IsSettledOf p r → aborted_in (settled_fates p r) ≡ event_count p - count_by (λ v. v) r.committed.items
aborted-settled p r settled =
    let both = verdicts-both r.committed.items in
    let all = settled.verdicts in
    let negative : aborted_in (settled_fates p r) ≡ count_by not r.committed.items =
    count_by-map (λ (f : Fate). not f.committed) (settled_fate p r) (below (event_count p))
    ∙ sym (count_by-map not (λ i. get_or r.committed.items i false) (below (event_count p))) ∙ ap (count_by not) (verdicts-are p r settled) in
    omega (arith, both, all, negative)

pub few_committed : (p : Plan) (r : Settled) → IsSettledOf p r → count_by (λ v. v) r.committed.items ≤ event_count p
few_committed p r settled = let all = settled.verdicts in omega (arith, all, count_by-le-length (λ (v : Bool). v) r.committed.items)

pub length-settled_fates : (p : Plan) (r : Settled) → length (settled_fates p r) ≡ event_count p
length-settled_fates p r = length-map-range_with_len (settled_fate p r) 0 (event_count p)
