-- A runner that tries an operation is still exploring: its answers are no more than its steps and loads can have had.
use Rattle.std.proofs.Common.{◌≡◌, ℕ, ◌+◌, ◌≤◌, cond, List, ◌∷◌, ◌++◌, sym, ap, ◌∙◌, subst, arith}
use Rattle.std.specs.Prelude.{count_by}
use Rattle.std.proofs.lemmas.List.Sums.{sum_by-cons, sum_by-append}
use Rattle.morph_base.specs.declared.plan.Plan.{Plan}
use Rattle.morph_base.specs.Plans.{event_count}
use Rattle.interleaving_core.specs.Counts.{evaluated}
use Rattle.op_words.specs.declared.trail.Item.{Item}
use Rattle.op_words.specs.Trails.{loaded}
use Rattle.op_eval.specs.declared.answers.Answers.{Answers}
use Rattle.op_eval.specs.declared.answers.Evaluation.{Evaluation}
use Rattle.op_eval.specs.declared.answers.Evaluation.TheVariants.{Evaluated, Blocked, Busy, Already}
use Rattle.op_eval.specs.declared.runner.Runner.{Runner}
use Rattle.op_eval.specs.Evaluations.{EvaluationDoes, Tries}
use Rattle.op_eval.specs.Exploring.{stopped, is_load, loads, IsExploring}
use Rattle.op_eval.specs.Running.{hand_view, one_more}
use Rattle.op_eval.proofs.Following.{evaluated_more}

up_most : (n : ℕ) → one_more n ≤ n + 1
up_most n = omega arith

pub loads_more : (xs ys : List Item) → count_by is_load xs ≤ count_by is_load (xs ++ ys)
loads_more xs ys = let e : count_by is_load (xs ++ ys) ≡ count_by is_load xs + count_by is_load ys = sum_by-append (λ x. cond (is_load x) 1 0) xs ys in omega arith

loads_begun : (xs : List Item) (o : ℕ) (does_first : _) (rest : List Item) → count_by is_load xs + 1 ≤ count_by is_load (xs ++ loaded o does_first ∷ rest)
loads_begun xs o w rest =
    let e : count_by is_load (xs ++ loaded o w ∷ rest) ≡ count_by is_load xs + count_by is_load (loaded o w ∷ rest) = sum_by-append (λ x. cond (is_load x) 1 0) xs (loaded o w ∷ rest) in
    let f : count_by is_load (loaded o w ∷ rest) ≡ 1 + count_by is_load rest = sum_by-cons (λ x. cond (is_load x) 1 0) (loaded o w) rest in
    omega arith

module _ (p : Plan) (cap o : ℕ) (a b : Runner) (running : IsExploring p a) where
  tried_loads : {r : Evaluation} → (does : EvaluationDoes p cap o (hand_view a) (hand_view b) r) → loads (hand_view a) + 1 ≤ loads (hand_view b)
  tried_loads does =
      subst (λ zs. loads (hand_view a) + 1 ≤ count_by is_load zs) (sym (does.goes.adds.trail ∙ ap (λ zs. (hand_view a).trail ++ zs) does.begins)) (loads_begun (hand_view a).trail o does.first does.rest)

  answers_kept : (r : Evaluation) → (t : Tries p cap o a b r) → (b.answers.evaluated ≤ evaluated (hand_view b).events) × (stopped b.answers ≤ loads (hand_view b))
  answers_kept (Evaluated x y) t =
      let does = t.does in
      let more = does.tells.finished_more in
      let e : b.answers.evaluated ≡ one_more a.answers.evaluated = ap (λ (n : Answers). n.evaluated) t.counts in
      let s : stopped b.answers ≡ stopped a.answers = ap stopped t.counts in
      let old = running.finishes in
      let few = running.stops in
      let high = tried_loads does in
      let most = up_most a.answers.evaluated in
      (omega arith, omega arith)
  answers_kept (Blocked x y) t =
      let does = t.does in
      let more = evaluated_more (hand_view a) (hand_view b) does.goes.adds.events in
      let e : b.answers.evaluated ≡ a.answers.evaluated = ap (λ (n : Answers). n.evaluated) t.counts in
      let s : stopped b.answers ≡ one_more a.answers.blocked + a.answers.busy + a.answers.already = ap stopped t.counts in
      let old = running.finishes in
      let few = running.stops in
      let high = tried_loads does in
      let most = up_most a.answers.blocked in
      (omega arith, omega arith)
  answers_kept (Busy x) t =
      let does = t.does in
      let more = evaluated_more (hand_view a) (hand_view b) does.goes.adds.events in
      let e : b.answers.evaluated ≡ a.answers.evaluated = ap (λ (n : Answers). n.evaluated) t.counts in
      let s : stopped b.answers ≡ a.answers.blocked + one_more a.answers.busy + a.answers.already = ap stopped t.counts in
      let old = running.finishes in
      let few = running.stops in
      let high = tried_loads does in
      let most = up_most a.answers.busy in
      (omega arith, omega arith)
  answers_kept (Already x) t =
      let does = t.does in
      let more = evaluated_more (hand_view a) (hand_view b) does.goes.adds.events in
      let e : b.answers.evaluated ≡ a.answers.evaluated = ap (λ (n : Answers). n.evaluated) t.counts in
      let s : stopped b.answers ≡ a.answers.blocked + a.answers.busy + one_more a.answers.already = ap stopped t.counts in
      let old = running.finishes in
      let few = running.stops in
      let high = tried_loads does in
      let most = up_most a.answers.already in
      (omega arith, omega arith)

  pub tries_running : (r : Evaluation) → Tries p cap o a b r → IsExploring p b
  tries_running r t =
      let does = t.does in
      record {
        finishes = (answers_kept r t).0;
        stops = (answers_kept r t).1;
        kept = ap (λ l. l.items) t.kept ∙ running.kept;
        room = subst (λ l. event_count p ≤ l.room) (sym t.kept) running.room;
      }
