-- What runners keep while words are added to their views that settle nothing.
use Rattle.std.proofs.Common.{◌≡◌, ℕ, ◌≤◌, sym, ap, ◌∙◌, subst, arith}
use Rattle.std.specs.Prelude.{count_by}
use Rattle.morph_base.specs.declared.plan.Plan.{Plan}
use Rattle.morph_base.specs.Plans.{event_count}
use Rattle.op_words.specs.Trails.{IsReached}
use Rattle.op_words.specs.Views.{IsLone}
use Rattle.op_words.proofs.Trailing.{reached_more}
use Rattle.op_eval.specs.declared.answers.Answers.{Answers}
use Rattle.op_eval.specs.declared.runner.Runner.{Runner}
use Rattle.op_eval.specs.Exploring.{stopped, is_load, loads, IsExploring}
use Rattle.op_eval.specs.Further.{IsFurther}
use Rattle.op_eval.specs.Running.{hand_view}
use Rattle.op_eval.proofs.Answering.{loads_more}
use Rattle.op_eval.proofs.Following.{evaluated_more}
use Rattle.abort_eager.proofs.Sweeping.{IsSweptOver}

pub further_lone : {a b : Runner} → IsFurther a b → IsLone (hand_view a) → IsLone (hand_view b)
further_lone further lone = record { root = further.tag ∙ lone.root; alone = further.made ∙ lone.alone }

pub further_reached : (p : Plan) (o : ℕ) {a b : Runner} → IsFurther a b → IsReached p o (hand_view a).trail → IsReached p o (hand_view b).trail
further_reached p o further is = subst (IsReached p o) (sym further.trail) (reached_more further.words is)

-- a runner is still exploring
pub swept_running : (p : Plan) (a b : Runner) → IsExploring p a → IsSweptOver a b → IsExploring p b
swept_running p a b running over =
    let more = evaluated_more (hand_view a) (hand_view b) over.goes.adds.events in
    let e : b.answers.evaluated ≡ a.answers.evaluated = ap (λ (n : Answers). n.evaluated) over.answers in
    let s : stopped b.answers ≡ stopped a.answers = ap stopped over.answers in
    let high : loads (hand_view a) ≤ loads (hand_view b) = subst (λ xs. loads (hand_view a) ≤ count_by is_load xs) (sym over.goes.adds.trail) (loads_more (hand_view a).trail over.words) in
    let old = running.finishes in
    let few = running.stops in
    record {
      finishes = omega arith;
      stops = omega arith;
      kept = ap (λ l. l.items) over.kept ∙ running.kept;
      room = subst (λ l. event_count p ≤ l.room) (sym over.kept) running.room;
    }
