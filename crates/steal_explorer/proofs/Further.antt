-- Calls in turn are those of one hand: each adds words to its view, and settles nothing.
use Rattle.std.proofs.Common.{ℕ, List, [], ◌∷◌}
use Rattle.morph_base.specs.declared.plan.Plan.{Plan}
use Rattle.op_words.specs.declared.trail.Item.{Item}
use Rattle.op_words.specs.Trails.{OwnOpen}
use Rattle.op_words.specs.Views.{AddsAndFrees}
use Rattle.op_eval.specs.declared.runner.Runner.{Runner}
use Rattle.op_eval.specs.Further.{IsFurther}
use Rattle.op_eval.proofs.Further.{same_further, goes_further, further_then}
use Rattle.abort_eager.proofs.Touching.{touched_one}
use Rattle.op_eval.specs.Running.{hand_view}
use Rattle.steal_explorer.specs.Calls.{ServeCall, Asked, Tried, Swept, MakesServeCall, MakesServeCalls}

pub record IsAdding (a b : Runner) : Type 0 where
  pub words : List Item
  pub goes : AddsAndFrees (hand_view a) (hand_view b) words
  pub open_own : OwnOpen words

pub call_adds : (p : Plan) (cap : ℕ) (c : ServeCall) (a b : Runner) → MakesServeCall p cap c a b → IsAdding a b
call_adds p cap (Asked o) a b call = let does = call.1.does in record { words = does.words; goes = does.goes; open_own = does.open_own }
call_adds p cap (Tried o) a b call = let does = call.1.does in record { words = does.words; goes = does.goes; open_own = does.open_own }
call_adds p cap (Swept g) a b call =
    let does = touched_one p cap g (hand_view a) (hand_view b) call.0 call.1.touches in
    record { words = does.words; goes = does.goes; open_own = does.open_own }

pub calls_further : (p : Plan) (cap : ℕ) (cs : List ServeCall) (a b : Runner) → MakesServeCalls p cap cs a b → IsFurther a b
calls_further p cap [] a b calls = same_further a b calls
calls_further p cap (c ∷ cs) a b calls =
    let new = call_adds p cap c calls.0 b calls.2 in
    further_then a calls.0 b (calls_further p cap cs a calls.0 calls.1) (goes_further calls.0 b new.words new.goes new.open_own)
