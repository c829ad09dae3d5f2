use Rattle.std.proofs.Common.{◌≡◌, ◌≤◌, ◌∙◌, All, take, ap, sym, subst}
use Rattle.morph_base.specs.declared.limits.TheConstants.{MAX}
use Rattle.morph_base.specs.Functions.{value_of}
use Rattle.morph_base.specs.Plans.{op_at}
use Rattle.abort_lazy.specs.Finishing.{settled_sources}
use Rattle.abort_lazy.proofs.Reading.{settled_sources-small}
use Rattle.abort_lazy.proofs.plain_finish.answer.Goals as goal

pub eval-requires-clause-values : goal.eval-requires-clause-values
eval-requires-clause-values c =
    let p = c.args.plan.now in
    let o = c.args.o in
    let sources = take c.places.result c.read_settled-sources.result in
    let sources_are : sources ≡ settled_sources p o =
    ap (λ n. take n c.read_settled-sources.result) c.places.ensures.count
    ∙ c.read_settled-sources.ensures.values in
    subst (All (λ x. x ≤ MAX)) (sym sources_are) (settled_sources-small p o c.requires.plan c.requires.op)

pub returns : goal.returns
returns c =
    let p = c.args.plan.now in
    let o = c.args.o in
    let sources = take c.places.result c.read_settled-sources.result in
    let sources_are : sources ≡ settled_sources p o =
    ap (λ n. take n c.read_settled-sources.result) c.places.ensures.count
    ∙ c.read_settled-sources.ensures.values in
    c.eval.ensures.value ∙ ap (value_of (op_at p o).op) sources_are
