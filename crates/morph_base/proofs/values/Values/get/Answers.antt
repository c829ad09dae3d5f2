use Rattle.std.proofs.Common.{◌<◌, ◌∙◌, sym, ap, arith, length, get_or}
use Rattle.std.proofs.lemmas.List.{get_or_default}
use Rattle.morph_base.specs.Operations.{InLayout}
use Rattle.morph_base.proofs.FlatLaws.{state_in-at}
use Rattle.morph_base.proofs.values.Values.get.Goals as goal

pub returns-clause-value : goal.returns-clause-value
returns-clause-value c =
    let h : InLayout c.self.inside.layout c.args.key = rw (← c.self.view_is) at c.requires in
    let lt : c.place.result < length c.self.inside.values.items = omega (arith, c.self.invariant.len) in
    let at = c.index.ensures ∙ get_or_default c.self.inside.values.items c.place.result c.index.result.now 0 lt in
    rw (← c.self.view_is)
    (at ∙ ap (λ i. get_or c.self.inside.values.items i 0) c.place.ensures.place
    ∙ sym (state_in-at c.self.inside.layout c.self.inside.values.items c.args.key h))
