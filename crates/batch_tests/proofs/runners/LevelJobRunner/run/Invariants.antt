use Rattle.batch_tests.specs.Resting.{StaysAtRest}
use Rattle.batch_tests.proofs.runners.LevelJobRunner.run.Given as goal

abbrev pub invariant-loop-i : goal.invariant-loop-i
invariant-loop-i l = StaysAtRest l.self.board.now l.initial.runner l.runner
