use Rattle.std.proofs.Common.{arith}
use Rattle.morph_base.proofs.NumberLaws.{op_count-small}
use Rattle.run_checker.proofs.replay.first_unlike.Goals as goal

pub overflow_cast-count : goal.overflow_cast-count
overflow_cast-count c = let few = op_count-small c.args.plan.now c.requires.plan in omega (arith, few, c.len-count.ensures)
