-- What stands behind an evaluation adds words to the view, and settles nothing.
use Rattle.std.proofs.Common.{◌≡◌, ℕ, true, false, nat_lt, if◌then◌else◌, Bool, Option, Some, None, List, [], ◌++◌, sym, ap, subst, arith}
use Rattle.std.proofs.lemmas.Option.{none-some}
use Rattle.morph_base.specs.declared.plan.Plan.{Plan}
use Rattle.morph_base.specs.declared.strategy.Abort.{Abort}
use Rattle.morph_base.specs.declared.strategy.Abort.TheVariants.{Lazy, Eager}
use Rattle.op_words.specs.declared.answers.Outcome.TheVariants.{Executed, Failed}
use Rattle.op_words.specs.declared.trail.Item.{Item}
use Rattle.op_words.specs.declared.trail.View.{View}
use Rattle.op_words.specs.Trails.{OwnOpen, IsReached}
use Rattle.op_words.specs.Views.{AddsAndFrees, IsAtRest, HasShownFailure}
use Rattle.op_words.proofs.Adding.{adds_none, goes_then}
use Rattle.op_words.proofs.Trailing.{reached_more}
use Rattle.op_eval.specs.declared.answers.Evaluation.{Evaluation}
use Rattle.op_eval.specs.declared.answers.Evaluation.TheVariants.{Evaluated, Blocked, Busy, Already}
use Rattle.op_eval.specs.declared.runner.Runner.{Runner}
use Rattle.op_eval.specs.Evaluations.{EvaluationDoes, Tries}
use Rattle.op_eval.specs.Running.{hand_view}
use Rattle.op_eval.proofs.Following.{open_append}
use Rattle.op_eval.proofs.Showing.{failure_shown}
use Rattle.op_eval.specs.Exploring.{RunRules}
use Rattle.abort_eager.specs.Targets.{targets}
use Rattle.abort_eager.proofs.Touching.{touched_all}
use Rattle.abort_eager.specs.Sweeps.{cascade_for, SweepsFor, Attempts}

-- words were added to the view, none of them settled, and nothing else changed
pub record IsSweptOver (a b : Runner) : Type 0 where
  pub words : List Item
  pub goes : AddsAndFrees (hand_view a) (hand_view b) words
  pub open_own : OwnOpen words
  pub answers : b.answers ≡ a.answers
  pub kept : b.kept ≡ a.kept

pub swept_over : (p : Plan) (cap o : ℕ) (f : Option Bool) (a b : Runner) → IsAtRest (hand_view a) → SweepsFor p cap o f a b → IsSweptOver a b
swept_over p cap o None a b rest same = record {
  words = [];
  goes = subst (λ r. AddsAndFrees (hand_view a) (hand_view r) []) (sym same) (record { adds = adds_none (hand_view a) rest.agree; free = rest.free });
  open_own = λ t inside. absurd (omega (arith, inside.1));
  answers = ap (λ r. r.answers) same;
  kept = ap (λ r. r.kept) same;
}
swept_over p cap o (Some failed) a b rest swept =
    let all = touched_all p cap (targets p o failed) (hand_view a) (hand_view b) rest swept.touching in
    record { words = all.words; goes = all.goes; open_own = all.open_own; answers = swept.answers; kept = swept.kept }

-- an operation was tried, with what there is behind it, and reached
pub record IsAttempted (p : Plan) (cap o : ℕ) (a b : Runner) : Type 0 where
  pub answer : Evaluation
  pub middle : Runner
  pub tries : Tries p cap o a middle answer
  pub over : IsSweptOver middle b
  pub words : List Item
  pub goes : AddsAndFrees (hand_view a) (hand_view b) words
  pub open_own : OwnOpen words
  pub reached : IsReached p o words

pub attempted : (rules : RunRules) (o : ℕ) (a b : Runner) → (r : Evaluation) × Attempts rules o a b r → IsAttempted rules.plan rules.cap o a b
attempted rules o a b call =
    let does = call.1.1.does in
    let rest : IsAtRest (hand_view call.1.0) = record { free = does.goes.free; agree = does.goes.adds.agree } in
    let over = swept_over rules.plan rules.cap o (cascade_for rules.abort call.0) call.1.0 b rest call.1.2 in
    record {
      answer = call.0;
      middle = call.1.0;
      tries = call.1.1;
      over = over;
      words = does.words ++ over.words;
      goes = goes_then does.goes over.goes;
      open_own = open_append does.words over.words does.open_own over.open_own;
      reached = reached_more over.words does.reached;
    }

-- under lazy nothing is behind it
pub lazy_tries : (rules : RunRules) → rules.abort ≡ Lazy → (o : ℕ) (a b : Runner) → (r : Evaluation) × Attempts rules o a b r → (r : Evaluation) × Tries rules.plan rules.cap o a b r
lazy_tries rules lazy o a b call =
    let same : b ≡ call.1.0 = subst (λ abort. SweepsFor rules.plan rules.cap o (cascade_for abort call.0) call.1.0 b) lazy call.1.2 in
    (call.0, subst (λ m. Tries rules.plan rules.cap o a m call.0) (sym same) call.1.1)

-- where the cascade is that of a failure, the failure was shown
pub cause_shown : (p : Plan) (cap o : ℕ) (abort : Abort) (v u : View) (r : Evaluation) → EvaluationDoes p cap o v u r → cascade_for abort r ≡ Some true → HasShownFailure u o
cause_shown p cap o Lazy v u r does none = absurd (none-some true none)
cause_shown p cap o Eager v u (Evaluated a Failed) does some = failure_shown p cap o v u does.words does.first a does.tells
cause_shown p cap o Eager v u (Evaluated a (Executed x)) does some = absurd (again (nat_lt 1 a) some)
  where
    again : (t : Bool) → (if t then Some false else None) ≡ Some true → ⊥
    again true is = cc
    again false none = none-some true none
cause_shown p cap o Eager v u (Blocked s w) does none = absurd (none-some true none)
cause_shown p cap o Eager v u (Busy w) does none = absurd (none-some true none)
cause_shown p cap o Eager v u (Already w) does none = absurd (none-some true none)
