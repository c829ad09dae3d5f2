-- What follows an evaluation: under eager abort, the cascade of one that failed or was not a first attempt
use Rattle.std.specs.Prelude.{◌≡◌, ℕ, Bool, true, false, nat_lt, if◌then◌else◌, Option, Some, None, List, [], ◌∷◌}
use Rattle.morph_base.specs.declared.plan.Plan.{Plan}
use Rattle.morph_base.specs.declared.strategy.Abort.{Abort}
use Rattle.morph_base.specs.declared.strategy.Abort.TheVariants.{Lazy, Eager}
use Rattle.op_words.specs.declared.answers.Outcome.TheVariants.{Executed, Failed}
use Rattle.op_eval.specs.declared.answers.Evaluation.{Evaluation}
use Rattle.op_eval.specs.declared.answers.Evaluation.TheVariants.{Evaluated, Blocked, Busy, Already}
use Rattle.op_eval.specs.declared.runner.Runner.{Runner}
use Rattle.op_eval.specs.Evaluations.{Tries}
use Rattle.op_eval.specs.Running.{hand_view}
use Rattle.abort_eager.specs.declared.answers.Target.{Target}
use Rattle.abort_eager.specs.declared.answers.Touched.{Touched}
use Rattle.op_eval.specs.Exploring.{RunRules}
use Rattle.abort_eager.specs.Targets.{targets}
use Rattle.abort_eager.specs.Touching.{Touches, Touching}

-- Whether a cascade follows this answer, and whether it is that of a failure. Under eager abort one follows an
-- evaluation that failed, or that was a second or later attempt. Under lazy abort none does
abbrev pub cascade_for : Abort → Evaluation → Option Bool
cascade_for Lazy r = None
cascade_for Eager (Evaluated a Failed) = Some true
cascade_for Eager (Evaluated a (Executed x)) = if nat_lt 1 a then Some false else None
cascade_for Eager (Blocked s w) = None
cascade_for Eager (Busy w) = None
cascade_for Eager (Already w) = None

-- Runner b is runner a as far as contracts see it, after a call that changes no view
pub record IsLike (a b : Runner) : Type 0 where
  pub view : hand_view b ≡ hand_view a
  pub answers : b.answers ≡ a.answers
  pub kept : b.kept ≡ a.kept

module _ (p : Plan) (cap : ℕ) where
  -- All targets of operation o's cascade were touched, and nothing else of the runner changed
  pub record IsSwept (o : ℕ) (failed : Bool) (a b : Runner) : Type 0 where
    pub touching : Touching p cap (targets p o failed) (hand_view a) (hand_view b)
    pub answers : b.answers ≡ a.answers
    pub kept : b.kept ≡ a.kept

  -- The runner touched the target, and only its view changed
  pub record SweepsOne (g : Target) (before after : Runner) (t : Touched) : Type 0 where
    pub touches : Touches p cap g (hand_view before) (hand_view after) t
    pub answers : after.answers ≡ before.answers
    pub kept : after.kept ≡ before.kept

  -- The cascade was run if there is one, and else nothing changed
  abbrev pub SweepsFor : (o : ℕ) → Option Bool → Runner → Runner → Type 0
  SweepsFor o None a b = b ≡ a
  SweepsFor o (Some failed) a b = IsSwept o failed a b

  module _ (leaves : Runner → Runner → Type 0) where
    -- All targets of the list were touched, one after another. After each a note left the runner like it was
    abbrev pub SweepsAll : List Target → Runner → Runner → Type 0
    SweepsAll [] a b = b ≡ a
    SweepsAll (g ∷ gs) a b =
        (m : Runner) × (n : Runner) × (t : Touched) × SweepsOne g a m t × IsLike m n × leaves m n × SweepsAll gs n b

    -- All targets of operation o's cascade were touched and noted if there is one, and else nothing changed
    abbrev pub SweepsAllFor : (o : ℕ) → Option Bool → Runner → Runner → Type 0
    SweepsAllFor o None a b = b ≡ a
    SweepsAllFor o (Some failed) a b = SweepsAll (targets p o failed) a b

module _ (rules : RunRules) where
  -- Operation o was tried with answer r, and then the cascade that follows was run, if there is one
  abbrev pub Attempts : (o : ℕ) → Runner → Runner → Evaluation → Type 0
  Attempts o a b r =
      (m : Runner) × Tries rules.plan rules.cap o a m r
      × SweepsFor rules.plan rules.cap o (cascade_for rules.abort r) m b

  -- Operation o was tried with answer r, and then all targets of the cascade that follows were touched and noted
  abbrev pub AttemptsNoting : (leaves : Runner → Runner → Type 0) → (o : ℕ) → Runner → Runner → Evaluation → Type 0
  AttemptsNoting leaves o a b r =
      (m : Runner) × Tries rules.plan rules.cap o a m r
      × SweepsAllFor rules.plan rules.cap leaves o (cascade_for rules.abort r) m b
