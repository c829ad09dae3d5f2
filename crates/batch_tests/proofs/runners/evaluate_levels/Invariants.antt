use Rattle.op_eval.specs.Gathering.{AreAtRest}
use Rattle.batch_tests.proofs.runners.evaluate_levels.Given as goal

abbrev pub invariant-loop-level : goal.invariant-loop-level
invariant-loop-level g l = AreAtRest l.board l.runners
