-- What calls in turn keep of a runner.
use Rattle.std.proofs.Common.{◌≡◌, ℕ, List, [], ◌∷◌, sym, ap, ◌∙◌, subst}
use Rattle.morph_base.specs.declared.plan.Plan.{Plan}
use Rattle.op_eval.specs.declared.runner.Runner.{Runner}
use Rattle.op_eval.specs.Exploring.{IsExploring}
use Rattle.op_eval.specs.Running.{hand_view}
use Rattle.op_eval.proofs.Answering.{tries_running}
use Rattle.abort_eager.proofs.Exploring.{swept_running}
use Rattle.abort_eager.proofs.Touching.{touched_one}
use Rattle.steal_explorer.specs.Calls.{ServeCall, Asked, Tried, Swept, MakesServeCalls}
use Rattle.steal_explorer.proofs.Further.{call_adds}

pub calls_running : (p : Plan) (cap : ℕ) (cs : List ServeCall) (a b : Runner) → IsExploring p a → MakesServeCalls p cap cs a b → IsExploring p b
calls_running p cap [] a b running calls = subst (IsExploring p) (sym calls) running
calls_running p cap (Asked o ∷ cs) a b running calls =
    let asks = calls.2.1 in
    let does = asks.does in
    swept_running p calls.0 b (calls_running p cap cs a calls.0 running calls.1) (record { words = does.words; goes = does.goes; open_own = does.open_own; answers = asks.answers; kept = asks.kept })
calls_running p cap (Tried o ∷ cs) a b running calls = tries_running p cap o calls.0 b (calls_running p cap cs a calls.0 running calls.1) calls.2.0 calls.2.1
calls_running p cap (Swept g ∷ cs) a b running calls =
    let sweeps = calls.2.1 in
    let does = touched_one p cap g (hand_view calls.0) (hand_view b) calls.2.0 sweeps.touches in
    swept_running p calls.0 b (calls_running p cap cs a calls.0 running calls.1) (record { words = does.words; goes = does.goes; open_own = does.open_own; answers = sweeps.answers; kept = sweeps.kept })

-- no number was taken from a counter
pub calls_places : (p : Plan) (cap : ℕ) (cs : List ServeCall) (a b : Runner) → MakesServeCalls p cap cs a b → (hand_view b).places ≡ (hand_view a).places
calls_places p cap [] a b calls = ap (λ r. (hand_view r).places) calls
calls_places p cap (c ∷ cs) a b calls = (call_adds p cap c calls.0 b calls.2).goes.adds.places ∙ calls_places p cap cs a calls.0 calls.1
