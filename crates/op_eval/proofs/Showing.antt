-- What evaluations show.
use Rattle.std.proofs.Common.{◌≡◌, ℕ, true, List, Option, Some, None, refl, ap, ◌∙◌}
use Rattle.morph_base.specs.declared.plan.Plan.{Plan}
use Rattle.morph_base.specs.declared.word.OpWord.{OpWord}
use Rattle.morph_base.specs.Functions.{value_of}
use Rattle.morph_base.specs.Plans.{op_at}
use Rattle.interleaving_core.specs.Core.{entry_of, ended, is_failed}
use Rattle.op_words.specs.declared.answers.Outcome.TheVariants.{Failed}
use Rattle.op_words.specs.declared.trail.Item.{Item}
use Rattle.op_words.specs.declared.trail.View.{View}
use Rattle.op_words.specs.Calls.{answer_of}
use Rattle.op_words.specs.Views.{HasShownFailure}
use Rattle.op_eval.specs.Evaluations.{IsEvaluated}

-- an operation that was evaluated as failed has its failure shown
pub failure_shown : (p : Plan) (cap o : ℕ) (v u : View) (xs : List Item) (first : OpWord) (a : ℕ) → IsEvaluated p cap o v u xs first a Failed → HasShownFailure u o
failure_shown p cap o v u xs first a is =
    record { entry = entry_of o is.word; inside = is.shown; op_is = refl; failed_is = ap (λ (w : OpWord). is_failed w.state) is.word_is ∙ at (value_of (op_at p o).op is.values) is.outcome_is }
  where
    at : (r : Option ℕ) → Failed ≡ answer_of r → is_failed (ended a is.values r).state ≡ true
    at None out = refl
    at (Some x) out = cc
