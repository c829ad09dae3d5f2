-- What the calls of an explorer make of a runner
use Rattle.std.specs.Prelude.{List}
use Rattle.op_eval.specs.declared.answers.Evaluation.{Evaluation}
use Rattle.op_eval.specs.declared.runner.Runner.{Runner}
use Rattle.op_eval.specs.Turns.{CallsInOrder, TakingCall, MakesTakingCall}
use Rattle.op_eval.specs.Exploring.{RunRules}
use Rattle.abort_eager.specs.Sweeps.{Attempts}

-- The call led from runner a to runner b: the runner took a number, or tried an operation and ran the cascade that
-- follows
abbrev pub MakesPassCall : RunRules → TakingCall → Runner → Runner → Type 0
MakesPassCall rules = MakesTakingCall (λ o a b. (r : Evaluation) × Attempts rules o a b r)

-- The calls, the last one first, led from runner a to runner b
abbrev pub MakesPassCalls : RunRules → List TakingCall → Runner → Runner → Type 0
MakesPassCalls rules = CallsInOrder (MakesPassCall rules)
