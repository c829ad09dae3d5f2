-- Cascades behind evaluations: their targets one after another, and what was rolled back asked.
use Rattle.std.proofs.Common.{◌≡◌, ◌≢◌, ℕ, suc, ◌<◌, true, false, Bool, Some, List, [], ◌∷◌, length, refl, sym, ap, subst, arith}
use Rattle.std.proofs.lemmas.Bool.{false≢true}
use Rattle.std.proofs.lemmas.Option.{none-some}
use Rattle.morph_base.specs.declared.plan.Plan.{Plan}
use Rattle.morph_base.specs.declared.strategy.Abort.{Abort}
use Rattle.morph_base.specs.declared.strategy.Abort.TheVariants.{Lazy, Eager}
use Rattle.op_words.specs.declared.board.Hand.{Hand}
use Rattle.op_words.specs.declared.trail.Item.{Item}
use Rattle.op_words.specs.declared.trail.View.{View}
use Rattle.op_words.specs.Hands.{view_of}
use Rattle.op_words.specs.Views.{AddsAndFrees as Adding, HasShownFailure}
use Rattle.op_eval.specs.declared.answers.Evaluation.{Evaluation}
use Rattle.op_eval.specs.declared.runner.Runner.{Runner}
use Rattle.op_eval.specs.Running.{hand_view}
use Rattle.op_eval.specs.Exploring.{RunRules}
use Rattle.abort_eager.specs.declared.answers.Touch.TheVariants.{RolledBack}
use Rattle.abort_eager.specs.declared.answers.Touched.{Touched}
use Rattle.abort_eager.specs.declared.cascade.Cascade.{Cascade}
use Rattle.abort_eager.specs.Sweeps.{cascade_for}
use Rattle.abort_eager.specs.Targets.{targets_left}
use Rattle.abort_eager.specs.Touching.{HasCause, NextDoes}
use Rattle.steal_explorer.specs.declared.member.Member.{Member}
use Rattle.steal_explorer.specs.Calls.{ServeCall, Swept, MakesServeCalls}
use Rattle.steal_explorer.specs.Serving.{ServesOn, AsksAndPuts, TouchesNext, TouchesAll, TouchesFor}
use Rattle.steal_explorer.proofs.Further.{call_adds}
use Rattle.steal_explorer.proofs.Going.{goes_calls}

-- ---- when there is a cascade

pub eager_behind : (abort : Abort) (r : Evaluation) (failed : Bool) → cascade_for abort r ≡ Some failed → abort ≡ Eager
eager_behind Eager r failed some = refl
eager_behind Lazy r failed some = absurd (none-some failed some)

pub none_under_lazy : (rules : RunRules) (o : ℕ) (r : Evaluation) (a b : Member) → rules.abort ≡ Lazy → TouchesFor rules o (cascade_for rules.abort r) a b → b ≡ a
none_under_lazy rules o r a b lazy touches = subst (λ abort. TouchesFor rules o (cascade_for abort r) a b) lazy touches

-- ---- the failure stays shown

shown_more : (o : ℕ) {v u : View} {xs : List Item} → Adding v u xs → HasShownFailure v o → HasShownFailure u o
shown_more o goes shown = record { entry = shown.entry; inside = goes.adds.published shown.entry shown.inside; op_is = shown.op_is; failed_is = shown.failed_is }

calls_shown : (p : Plan) (cap o : ℕ) (cs : List ServeCall) (a b : Runner) → MakesServeCalls p cap cs a b → HasShownFailure (hand_view a) o → HasShownFailure (hand_view b) o
calls_shown p cap o [] a b calls shown = subst (λ r. HasShownFailure (hand_view r) o) (sym calls) shown
calls_shown p cap o (c ∷ cs) a b calls shown = shown_more o (call_adds p cap c calls.0 b calls.2).goes (calls_shown p cap o cs a calls.0 calls.1 shown)

pub cause_kept : (rules : RunRules) (c : Cascade) (a b : Member) → ServesOn rules a b → HasCause c (hand_view a.runner) → HasCause c (hand_view b.runner)
cause_kept rules c a b goes cause = λ failed. calls_shown rules.plan rules.cap c.op goes.calls a.runner b.runner goes.made (cause failed)

-- ---- cascades that ask what they rolled back

-- under eager abort
pub eager_lazy : (abort : Abort) → abort ≡ Eager → abort ≡ Lazy → ⊥
eager_lazy abort eager lazy = cc

-- a hand that did nothing
pub left_as : (m : Member) (h : Hand) → h ≡ m.runner.hand → record m { runner = record m.runner { hand = h } } ≡ m
left_as m h still = ap (λ g. record m { runner = record m.runner { hand = g } }) still

module _ (rules : RunRules) (c d : Cascade) where
  module _ (m : Member) (h : Hand) (t : Touched) (next : NextDoes rules.plan rules.cap c d (hand_view m.runner) (view_of h) (Some t)) where
    abbrev after : Member
    after = record m { runner = record m.runner { hand = h } }

    pub goes_touched : rules.abort ≡ Eager → ServesOn rules m after
    goes_touched eager =
        goes_calls rules m after.runner (Swept next.target ∷ []) (m.runner, refl, (t, record { touches = next.touches; answers = refl; kept = refl }))
        (λ lazy. absurd (eager_lazy rules.abort eager lazy))

    pub touches_next : (b : Member) → (t.touch ≡ RolledBack → AsksAndPuts rules t.op after b) → (t.touch ≢ RolledBack → b ≡ after) → TouchesNext rules true c d m b
    touches_next b asked other = (
      next.target,
      next.left,
      record { touched = after.runner; answer = t; sweeps = record { touches = next.touches; answers = refl; kept = refl }; asked = asked; other = other },
    )

  module _ (a b : Member) where
    -- the targets that were left, with this one before them
    pub touches_more : (r : Bool) → TouchesNext rules r c d a b → r ≡ true → (u : Member) → TouchesAll rules (targets_left rules.plan d) b u → TouchesAll rules (targets_left rules.plan c) a u
    touches_more true next some u rest = subst (λ gs. TouchesAll rules gs a u) (sym next.1) (b, next.2, rest)
    touches_more false next some u rest = absurd (false≢true some)

    pub touches_fewer : (r : Bool) → TouchesNext rules r c d a b → r ≡ true → length (targets_left rules.plan d) < length (targets_left rules.plan c)
    touches_fewer true next some = let e : length (targets_left rules.plan c) ≡ suc (length (targets_left rules.plan d)) = ap length next.1 in omega arith
    touches_fewer false next some = absurd (false≢true some)

    pub touches_end : (r : Bool) → TouchesNext rules r c d a b → r ≡ false → TouchesAll rules (targets_left rules.plan c) a b
    touches_end false next none = subst (λ gs. TouchesAll rules gs a b) (sym next.0) next.1
    touches_end true next none = absurd (false≢true (sym none))
