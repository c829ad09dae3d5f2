-- What calls in turn keep of a runner.
use Rattle.std.proofs.Common.{◌≡◌, ◌≢◌, ◌⊎◌, ℕ, ◌≤◌, List, [], ◌∷◌, sym, ap, ◌∙◌, subst}
use Rattle.std.specs.Prelude.{Contains}
use Rattle.morph_base.specs.declared.plan.Plan.{Plan}
use Rattle.morph_base.specs.Plans.{event_count}
use Rattle.op_words.specs.declared.trail.Place.{Place}
use Rattle.op_words.specs.declared.trail.View.{View}
use Rattle.interleaving_core.specs.Counts.{evaluated}
use Rattle.op_eval.specs.declared.answers.Answers.{Answers}
use Rattle.op_eval.specs.declared.answers.Evaluation.{Evaluation}
use Rattle.op_eval.specs.declared.runner.Runner.{Runner}
use Rattle.op_words.specs.Counting.{place, times}
use Rattle.op_eval.specs.Running.{hand_view}
use Rattle.op_eval.specs.Turns.{TakesNumber, TakingCall, Took, Tried}
use Rattle.strata_explorer.specs.Calls.{MakesPassCalls}
use Rattle.op_eval.specs.Exploring.{stopped, loads, IsExploring, RunRules}
use Rattle.op_eval.proofs.Answering.{tries_running}
use Rattle.op_eval.proofs.Turns.{places_taken, places_hold, times_still}
use Rattle.abort_eager.proofs.Exploring.{swept_running}
use Rattle.abort_eager.proofs.Sweeping.{attempted}
use Rattle.abort_eager.specs.Sweeps.{Attempts}

-- ---- places

calls_still : (rules : RunRules) (o : ℕ) (a b : Runner) → (r : Evaluation) × Attempts rules o a b r → (hand_view b).places ≡ (hand_view a).places
calls_still rules o a b tried = (attempted rules o a b tried).goes.adds.places

pub calls_places : (rules : RunRules) (cs : List TakingCall) (a b : Runner) → MakesPassCalls rules cs a b → (c n : ℕ) → Contains (hand_view b).places (place c n) → Contains (hand_view a).places (place c n) ⊎ Contains cs (Took c n)
calls_places rules = places_taken _ (calls_still rules)

pub calls_hold : (rules : RunRules) (cs : List TakingCall) (a b : Runner) → MakesPassCalls rules cs a b → (x : Place) → Contains (hand_view a).places x → Contains (hand_view b).places x
calls_hold rules = places_hold _ (calls_still rules)

pub calls_times : (rules : RunRules) (c l : ℕ) → c ≢ l → (cs : List TakingCall) (a b : Runner) → ((k n : ℕ) → Contains cs (Took k n) → k ≡ l) → MakesPassCalls rules cs a b → times c (hand_view b).places ≡ times c (hand_view a).places
calls_times rules = times_still _ (calls_still rules)

-- ---- answers

pub takes_running : (p : Plan) (c n : ℕ) (a b : Runner) → IsExploring p a → TakesNumber c n a b → IsExploring p b
takes_running p c n a b running t = record {
  finishes = subst (λ (v : View). b.answers.evaluated ≤ evaluated v.events) (sym t.view) (subst (λ (k : Answers). k.evaluated ≤ evaluated (hand_view a).events) (sym t.answers) running.finishes);
  stops = subst (λ (v : View). stopped b.answers ≤ loads v) (sym t.view) (subst (λ (k : Answers). stopped k ≤ loads (hand_view a)) (sym t.answers) running.stops);
  kept = ap (λ l. l.items) t.kept ∙ running.kept;
  room = subst (λ l. event_count p ≤ l.room) (sym t.kept) running.room;
}

pub calls_running : (rules : RunRules) (cs : List TakingCall) (a b : Runner) → IsExploring rules.plan a → MakesPassCalls rules cs a b → IsExploring rules.plan b
calls_running rules [] a b running calls = subst (IsExploring rules.plan) (sym calls) running
calls_running rules (Took c n ∷ cs) a b running calls = takes_running rules.plan c n calls.0 b (calls_running rules cs a calls.0 running calls.1) calls.2
calls_running rules (Tried o ∷ cs) a b running calls =
    let does = attempted rules o calls.0 b calls.2 in
    swept_running rules.plan does.middle b (tries_running rules.plan rules.cap o calls.0 does.middle (calls_running rules cs a calls.0 running calls.1) does.answer does.tries) does.over
