use Rattle.std.proofs.Common.{refl}
use Rattle.morph_base.specs.declared.plan_ops.PlanOps.TheInside.{Inside}
use Rattle.morph_base.proofs.OpViewLaws.{unmarked_view}
use Rattle.morph_base.proofs.plan_ops.PlanOps.of.Goals as goal

pub returns : goal.returns
returns c =
    let s : Inside = record { rows = c.args.rows; marks = c.in_ok-marks.marks; places = c.in_ok-places.places } in
    unmarked_view s c.args.rows refl c.in_ok-marks.ensures.items
