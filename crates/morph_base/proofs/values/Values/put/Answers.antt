use Rattle.std.proofs.Common.{◌<◌, ◌∙◌, ap, arith, length, set}
use Rattle.morph_base.specs.Operations.{InLayout}
use Rattle.morph_base.specs.Flat.{state_in, place_of}
use Rattle.morph_base.proofs.FlatLaws.{state_in-put}
use Rattle.morph_base.proofs.values.Values.put.Goals as goal

pub returns-clause-state : goal.returns-clause-state
returns-clause-state c =
    let h : InLayout c.self.inside.layout c.args.key = rw (← c.self.view_is) at c.requires.key in
    let lt : place_of c.self.inside.layout c.args.key < length c.self.inside.values.items =
    omega (arith, c.self.invariant.len, c.place.ensures.place, c.place.ensures.inside) in
    rw (← c.self.view_is)
    (ap (λ i. state_in c.self.inside.layout (set c.self.inside.values.items i c.args.value)) c.place.ensures.place
    ∙ state_in-put c.self.inside.layout c.self.inside.values.items c.args.key c.args.value h lt)
