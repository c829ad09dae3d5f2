-- What a runner counts on the way.
use Rattle.std.proofs.Common.{◌≡◌, ℕ, ◌+◌, ◌≤◌, List, [], ◌∷◌, ◌++◌, refl, sym, ap, ◌∙◌, arith}
use Rattle.std.proofs.lemmas.List.{length-append}
use Rattle.morph_base.specs.declared.plan.Plan.{Plan}
use Rattle.morph_base.specs.declared.word.OpWord.{OpWord}
use Rattle.op_words.specs.declared.answers.Redone.{Redone}
use Rattle.op_eval.specs.declared.answers.Answers.{Answers}
use Rattle.op_eval.specs.declared.answers.Evaluation.{Evaluation}
use Rattle.op_eval.specs.declared.runner.Runner.{Runner}
use Rattle.op_eval.specs.Running.{counted}
use Rattle.op_eval.specs.Evaluations.{Tries, Redoes, evaluation_of}
use Rattle.abort_lazy.specs.Transactions.{counted_all, IsAnswered}

counted-append : (xs ys : List Evaluation) (n : Answers) → counted_all (xs ++ ys) n ≡ counted_all ys (counted_all xs n)
unfolding counted_all
counted-append [] ys n = refl
counted-append (x ∷ xs) ys n = counted-append xs ys (counted x n)

-- no answer, where only the hand was used
pub answered_none : (most : ℕ) (before after : Runner) → after.answers ≡ before.answers → after.kept ≡ before.kept → IsAnswered most before after
unfolding counted_all
answered_none most before after answers kept = record { answers = []; few = omega arith; counts = answers; kept = kept }

-- one, and then the hand was used
pub answered_one : (p : Plan) (cap o : ℕ) {before middle : Runner} {r : Evaluation} (after : Runner) → Tries p cap o before middle r → after.answers ≡ middle.answers → after.kept ≡ middle.kept
    → IsAnswered 1 before after
unfolding counted_all
answered_one p cap o {before} {middle} {r} after tries answers kept = record { answers = r ∷ []; few = omega arith; counts = answers ∙ tries.counts; kept = kept ∙ tries.kept }

-- one of an operation that was taken back and evaluated again
pub answered_again : (p : Plan) (o j : ℕ) (w : OpWord) {before after : Runner} {r : Redone} → Redoes p o w j before after r → IsAnswered 1 before after
unfolding counted_all
answered_again p o j w {before} {after} {r} does = record { answers = evaluation_of r ∷ []; few = omega arith; counts = does.counts; kept = does.kept }

-- of two parts
pub answered_then : {m n : ℕ} (before middle after : Runner) → IsAnswered m before middle → IsAnswered n middle after → IsAnswered (m + n) before after
answered_then {m} {n} before middle after first second = record {
  answers = first.answers ++ second.answers;
  few = let len = length-append first.answers second.answers in let one = first.few in let two = second.few in omega arith;
  counts = second.counts ∙ ap (counted_all second.answers) first.counts ∙ sym (counted-append first.answers second.answers before.answers);
  kept = second.kept ∙ first.kept;
}

-- fewer than there may be
pub answered_most : {m : ℕ} (n : ℕ) (before after : Runner) → m ≤ n → IsAnswered m before after → IsAnswered n before after
answered_most n before after le is = record { answers = is.answers; few = let few = is.few in omega arith; counts = is.counts; kept = is.kept }

-- the hand was used in between
pub answered_also : {m : ℕ} (before next middle after : Runner) → next.answers ≡ before.answers → next.kept ≡ before.kept → after.answers ≡ middle.answers → after.kept ≡ middle.kept
    → IsAnswered m next middle → IsAnswered m before after
answered_also before next middle after answers kept same keeps is = record {
  answers = is.answers;
  few = is.few;
  counts = same ∙ is.counts ∙ ap (counted_all is.answers) answers;
  kept = keeps ∙ is.kept ∙ kept;
}
