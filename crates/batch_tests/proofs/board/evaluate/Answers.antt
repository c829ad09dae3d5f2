use Rattle.std.proofs.Common.{◌≡◌, ℕ, true, List, [], ◌∷◌, refl, inl, inr, ◌∙◌, subst, Some}
use Rattle.std.proofs.lemmas.Bool.{cases_Bool, cond-false}
use Rattle.morph_base.specs.declared.plan.Plan.{Plan}
use Rattle.morph_base.specs.declared.word.OpWord.{OpWord}
use Rattle.interleaving_core.specs.Core.{entry_of, is_failed}
use Rattle.op_words.specs.declared.answers.Outcome.{Outcome}
use Rattle.op_words.specs.declared.answers.Outcome.TheVariants.{Executed as ExecutedTo, Failed as HasFailed}
use Rattle.op_words.specs.declared.trail.View.{View}
use Rattle.op_words.specs.Views.{Holds, HasShownFailure}
use Rattle.op_words.specs.Calls.{outcome_of, FinishDoes}
use Rattle.op_words.specs.Hands.{cap_of, view_of}
use Rattle.batch_tests.proofs.board.evaluate.Goals as goal

not_executed : {x : ℕ} → HasFailed ≡ ExecutedTo x → ⊥
not_executed same = cc

failed_word : (w : OpWord) → HasFailed ≡ outcome_of w → is_failed w.state ≡ true
failed_word w is =
    elim (cases_Bool (is_failed w.state)) [
      | inl failed ↦ failed
      | inr other ↦ absurd (not_executed (is ∙ cond-false (is_failed w.state) HasFailed (ExecutedTo w.value) other))
    ]

-- an operation that was finished, and failed
failure_shown : (p : Plan) (cap o a : ℕ) (v u : View) (ys : List ℕ) → Holds v o a ys → FinishDoes p cap o v u HasFailed → HasShownFailure u o
failure_shown p cap o a v u ys holds did =
    let done = did.tells a ys holds in
    record { entry = entry_of o done.word; inside = done.shown; op_is = refl; failed_is = failed_word done.word done.outcome }

some_same : {x y : Outcome} → Some x ≡ Some y → x ≡ y
some_same is = cc

pub returns-in-Value-clause-shown : goal.returns-in-Value-clause-shown
returns-in-Value-clause-shown c = λ is.
    let a = c.in_default.field-0 in let x = c.in-Value.field-0 in
    let held = c.in_default.ensures.answer.tells.holds in
    let fetched = (c.in-Value.ensures.answer.tells a [] held).holds in
    failure_shown c.args.plan.now (cap_of c.args.board.now) c.args.op a (view_of c.fetch-fetched.new.hand) (view_of c.finish.new.hand) (x ∷ []) fetched
    (subst (FinishDoes c.args.plan.now (cap_of c.args.board.now) c.args.op (view_of c.fetch-fetched.new.hand) (view_of c.finish.new.hand)) (some_same is) c.finish.ensures.answer)
