use Rattle.std.proofs.Common.{ap, sym, subst, ◌∙◌, ◌≡◌, None}
use Rattle.op_words.specs.declared.trail.View.{View}
use Rattle.op_words.specs.Hands.{IsHandOf}
use Rattle.op_eval.specs.Running.{hand_view}
use Rattle.batch_tests.proofs.stale.a_stale_operation_is_redone.Goals as goal

pub explore-requires-clause-hand : goal.explore-requires-clause-hand
explore-requires-clause-hand g c =
    let rest = c.in_ok-runners.ensures.rest (ap (λ (v : View). v.claim) c.split-other.ensures.parent ∙ ap (λ (v : View). v.claim) c.in_ok-board.ensures.view) in
    subst (λ r. IsHandOf c.in_ok-board.board r.hand) (sym (c.runner-runner.ensures.item c.runner-runner.result.now)) (rest.hands 0 c.runner-runner.result.now rest.some)

pub explore-requires-clause-free : goal.explore-requires-clause-free
explore-requires-clause-free g c =
    let rest = c.in_ok-runners.ensures.rest (ap (λ (v : View). v.claim) c.split-other.ensures.parent ∙ ap (λ (v : View). v.claim) c.in_ok-board.ensures.view) in
    subst (λ r. (hand_view r).claim ≡ None) (sym (c.runner-runner.ensures.item c.runner-runner.result.now)) (rest.free 0 c.runner-runner.result.now rest.some)
