use Rattle.std.proofs.Common.{◌≡◌, length, sym, ap, ◌∙◌, arith}
use Rattle.morph_base.specs.OpRows.{keys_before}
use Rattle.morph_base.proofs.OpViewLaws.{places_are}
use Rattle.morph_base.proofs.plan_ops.PlanOps.all_places.Goals as goal

pub returns-then-next-len-clause-count : goal.returns-then-next-len-clause-count
returns-then-next-len-clause-count c =
    let s = c.self.inside in
    c.place.ensures.count ∙ ap (keys_before s.rows) c.len-next.ensures
    ∙ sym (places_are s c.args.self.now c.self.view_is c.self.invariant)

pub returns-else-next-len-clause-count : goal.returns-else-next-len-clause-count
returns-else-next-len-clause-count c =
    let s = c.self.inside in
    let all : length s.rows ≡ length s.marks.items
    = omega (arith, c.if-next-len.false, c.len-next.ensures, c.len.ensures, c.self.invariant.marked) in
    c.key_count.ensures.count ∙ ap (keys_before s.rows) all
    ∙ sym (places_are s c.args.self.now c.self.view_is c.self.invariant)
