use Rattle.std.proofs.Common.{arith}
use Rattle.strata_explorer.proofs.Leveling.{small_levels}
use Rattle.strata_explorer.proofs.exploration.counters.Goals as goal

pub overflow_cast-result : goal.overflow_cast-result
overflow_cast-result c = omega (arith, c.len.ensures, small_levels c.args.plan.now c.requires)

pub overflow_mul-result : goal.overflow_mul-result
overflow_mul-result c = omega (arith, c.len.ensures, small_levels c.args.plan.now c.requires)

pub overflow_add-result : goal.overflow_add-result
overflow_add-result c = omega (arith, c.len.ensures, small_levels c.args.plan.now c.requires)
