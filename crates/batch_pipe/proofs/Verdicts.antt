-- How many of the events of a batch abort.
use Rattle.std.proofs.Common.{◌≡◌, Bool, map, get_or, false, List, sum, refl, sym, ap, ◌∙◌, cond}
use Rattle.std.specs.Prelude.{not, count_by}
use Rattle.std.proofs.lemmas.Simd.{map-map}
use Rattle.std.proofs.lemmas.List.FromFn.{fill_by_all}
use Rattle.std.proofs.lemmas.List.Sums.{sum-map}
use Rattle.morph_base.specs.declared.plan.Plan.{Plan}
use Rattle.morph_base.specs.declared.plan.Settled.{Settled}
use Rattle.morph_base.specs.Outcomes.{Fate}
use Rattle.morph_base.specs.Plans.{IsSettledOf, event_count}
use Rattle.morph_base.specs.Graphs.{below}
use Rattle.morph_engine.specs.Fates.{settled_fate, settled_fates}

-- how many pass a test, of images
count_by-map : {X Y : Type 0} (test : Y → Bool) (f : X → Y) (xs : List X) → count_by test (map f xs) ≡ count_by (λ x. test (f x)) xs
count_by-map test f xs =
    sym (sum-map (λ y. cond (test y) 1 0) (map f xs)) ∙ ap sum (map-map (λ y. cond (test y) 1 0) f xs) ∙ sum-map (λ x. cond (test (f x)) 1 0) xs

pub aborts-settled : (p : Plan) (r : Settled) → IsSettledOf p r → count_by (λ (f : Fate). not f.committed) (settled_fates p r) ≡ count_by not r.committed.items
aborts-settled p r settled =
    count_by-map (λ (f : Fate). not f.committed) (settled_fate p r) (below (event_count p))
    ∙ sym (count_by-map not (λ i. get_or r.committed.items i false) (below (event_count p)))
    ∙ ap (count_by not) (sym (fill_by_all (λ i. get_or r.committed.items i false) r.committed.items (event_count p) false settled.verdicts (λ k lt. refl)))
