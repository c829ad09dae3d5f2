use Rattle.std.proofs.Common.{arith, ap, refl, length, [], ◌∷◌, length-append}
use Rattle.op_eval.proofs.Seating.{joining_step, joining_done}
use Rattle.op_eval.proofs.runners.join_all.Goals as goal

pub joins-preserved : goal.joins-preserved
joins-preserved c =
    let is = c.joins.invariant.0 in
    let many = c.joins.invariant.1 in
    let places = c.joins.invariant.2 in
    let last = c.in-Some.ensures.last in
    let long = ap length last in
    let parts = length-append c.pop.new.self.items (c.in-Some.field-0 ∷ []) in (
      joining_step _ _ _ _ _ _ _ _ c.in-Some.field-0.hand c.in-Some.field-0.kept _ _ c.in-Some.field-0 is last refl refl c.join.ensures.hand c.join.ensures.view c.add.ensures.items,
      omega (arith, many, long, parts),
      omega (arith, places, long, parts, c.add.ensures.room),
      c.joins.invariant.3,
    )

pub returns-clause-view : goal.returns-clause-view
returns-clause-view c = joining_done _ _ _ _ _ _ _ c.joins.invariant.0 (omega (arith, c.joins.invariant.1, c.joins-test.false))
