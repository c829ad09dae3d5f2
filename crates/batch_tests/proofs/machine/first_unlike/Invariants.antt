use Rattle.interleaving_core.specs.Stored.{IsStateOf}
use Rattle.batch_tests.proofs.machine.first_unlike.Given as goal

abbrev pub invariant-loop-i : goal.invariant-loop-i
invariant-loop-i l = IsStateOf l.plan l.state
