use Rattle.std.proofs.Common.{sym, subst, arith}
use Rattle.morph_base.specs.Plans.{IsPlan}
use Rattle.morph_base.proofs.NumberLaws.{op_count-small}
use Rattle.batch_tests.proofs.runners.words_of.Goals as goal

pub overflow_cast-op-end : goal.overflow_cast-op-end
overflow_cast-op-end c =
    let few = op_count-small c.args.plan.now (subst IsPlan (sym c.requires.plan) c.requires.hand.valid) in
    omega (arith, few)
