use Rattle.std.proofs.Common.{◌≤◌, ◌*◌, arith}
use Rattle.morph_base.specs.declared.limits.TheConstants.{EVENT_OPS, EVENTS}
use Rattle.morph_base.specs.Plans.{op_count}
use Rattle.morph_base.proofs.NumberLaws.{op_count-small}
use Rattle.run_text.proofs.checks.is_cut.Goals as goal

pub overflow_mul-result : goal.overflow_mul-result
overflow_mul-result c =
    let few : op_count c.args.plan.now ≤ EVENT_OPS * EVENTS = op_count-small c.args.plan.now c.requires.plan in omega (arith, few, c.len.ensures)

pub overflow_add-result : goal.overflow_add-result
overflow_add-result c =
    let few : op_count c.args.plan.now ≤ EVENT_OPS * EVENTS = op_count-small c.args.plan.now c.requires.plan in omega (arith, few, c.len.ensures)
