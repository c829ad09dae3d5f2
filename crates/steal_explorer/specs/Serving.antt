-- What serving an item makes of a worker
use Rattle.std.specs.Prelude.{◌≡◌, ◌≢◌, ◌⊎◌, ℕ, Bool, true, false, Option, Some, None, List, [], ◌∷◌, Contains, filter}
use Rattle.crossbeam_deque.specs.Handles.{worker_deque}
use Rattle.morph_base.specs.Graphs.{below, reads_from}
use Rattle.morph_base.specs.Plans.{op_count}
use Rattle.morph_base.specs.declared.plan.Plan.{Plan}
use Rattle.op_words.specs.declared.answers.Readied.{Readied}
use Rattle.op_words.specs.declared.answers.Readied.TheVariants.{Made}
use Rattle.op_eval.specs.declared.answers.Evaluation.{Evaluation}
use Rattle.op_eval.specs.declared.answers.Evaluation.TheVariants.{Evaluated, Blocked, Busy, Already}
use Rattle.op_eval.specs.declared.runner.Runner.{Runner}
use Rattle.op_eval.specs.Evaluations.{Tries}
use Rattle.abort_eager.specs.declared.answers.Target.{Target}
use Rattle.abort_eager.specs.declared.answers.Touch.TheVariants.{RolledBack}
use Rattle.abort_eager.specs.declared.answers.Touched.{Touched}
use Rattle.abort_eager.specs.declared.cascade.Cascade.{Cascade}
use Rattle.op_eval.specs.Exploring.{RunRules}
use Rattle.abort_eager.specs.Sweeps.{cascade_for, SweepsOne}
use Rattle.abort_eager.specs.Targets.{targets, targets_left}
use Rattle.steal_explorer.specs.declared.member.Member.{Member}
use Rattle.steal_explorer.specs.Calls.{ServeCall, Tried, NoneSwept, AsksWhetherReady, MakesServeCalls, WalkedUnit}
use Rattle.steal_explorer.specs.Handing.{put}
use Rattle.steal_explorer.specs.Members.{own}

-- The operations that read from operation o, by rising number
abbrev pub readers : Plan → ℕ → List ℕ
readers p o = filter (reads_from p o) (below (op_count p))

-- The worker's runner made calls, none of a cascade under lazy abort, and it pushed on its own deque. Nothing else
-- changed
pub record ServesOn (rules : RunRules) (a b : Member) : Type 0 where
  pub number : b.number ≡ a.number
  pub tickets : b.tickets ≡ a.tickets
  pub stolen : b.stolen ≡ a.stolen
  pub end : b.end ≡ a.end
  pub deque : worker_deque b.owner ≡ worker_deque a.owner
  pub calls : List ServeCall
  pub made : MakesServeCalls rules.plan rules.cap calls a.runner b.runner
  pub lazy : NoneSwept rules.abort calls
  pub pushed : List ℕ
  pub puts : own b ≡ put (own a) pushed

module _ (rules : RunRules) where
  -- Operation o was pushed, or its unit was walked at once
  abbrev pub PutsOrWalks : (o : ℕ) → Member → Member → Type 0
  PutsOrWalks o a b =
      ((own b ≡ put (own a) (o ∷ [])) × (b.runner ≡ a.runner)) ⊎ WalkedUnit rules o a.runner b.runner

  -- Operation o was asked. If that made it ready, it was pushed, or its unit was walked at once
  pub record AsksAndPuts (o : ℕ) (a b : Member) : Type 0 where
    pub asked : Runner
    pub answer : Readied
    pub asks : AsksWhetherReady rules.plan rules.cap o a.runner asked answer
    pub made : answer ≡ Made → PutsOrWalks o (record a { runner = asked }) b
    pub other : answer ≢ Made → b ≡ record a { runner = asked }

  -- The target of a cascade was touched. If that rolled an operation back, the operation was asked, and pushed if that
  -- made it ready
  pub record TouchesOne (g : Target) (a b : Member) : Type 0 where
    pub touched : Runner
    pub answer : Touched
    pub sweeps : SweepsOne rules.plan rules.cap g a.runner touched answer
    pub asked : answer.touch ≡ RolledBack → AsksAndPuts answer.op (record a { runner = touched }) b
    pub other : answer.touch ≢ RolledBack → b ≡ record a { runner = touched }

  -- The first target that the cascade had left was touched; or none was left, and nothing was done
  abbrev pub TouchesNext : Bool → (before after : Cascade) → Member → Member → Type 0
  TouchesNext true c d a b =
      (g : Target) × (targets_left rules.plan c ≡ g ∷ targets_left rules.plan d) × TouchesOne g a b
  TouchesNext false c d a b = (targets_left rules.plan c ≡ []) × (b ≡ a)

  -- All targets of the list were touched, one after another
  abbrev pub TouchesAll : List Target → Member → Member → Type 0
  TouchesAll [] a b = b ≡ a
  TouchesAll (g ∷ gs) a b = (m : Member) × TouchesOne g a m × TouchesAll gs m b

  -- All targets of the cascade that follows were touched, if there is one
  abbrev pub TouchesFor : (o : ℕ) → Option Bool → Member → Member → Type 0
  TouchesFor o None a b = b ≡ a
  TouchesFor o (Some failed) a b = TouchesAll (targets rules.plan o failed) a b

  -- These operations were asked, one after another. Each that became ready was pushed, or its unit was walked
  abbrev pub AsksAll : List ℕ → Member → Member → Type 0
  AsksAll [] a b = b ≡ a
  AsksAll (o ∷ os) a b = (m : Member) × AsksAndPuts o a m × AsksAll os m b

  -- All that read from operation o were asked, if o was evaluated. Else nothing was done
  abbrev pub AsksReaders : (o : ℕ) → Evaluation → Member → Member → Type 0
  AsksReaders o (Evaluated attempt ok) a b = AsksAll (readers rules.plan o) a b
  AsksReaders o (Blocked source word) a b = b ≡ a
  AsksReaders o (Busy word) a b = b ≡ a
  AsksReaders o (Already word) a b = b ≡ a

  -- Operation o was tried, the cascade that follows was run to its end, and then what reads from o was asked
  pub record Visits (o : ℕ) (a b : Member) : Type 0 where
    pub evaluated : Runner
    pub answer : Evaluation
    pub tries : Tries rules.plan rules.cap o a.runner evaluated answer
    pub swept : Member
    pub touches : TouchesFor o (cascade_for rules.abort answer) (record a { runner = evaluated }) swept
    pub asks : AsksReaders o answer swept b
    pub goes : ServesOn rules swept b

  -- These operations were visited, the last one first
  abbrev pub VisitsAll : List ℕ → Member → Member → Type 0
  VisitsAll [] a b = b ≡ a
  VisitsAll (o ∷ os) a b = (m : Member) × VisitsAll os a m × Visits o m b

  -- The worker served operation o: it tried to evaluate o, and visited each operation that it tried
  pub record Serves (o : ℕ) (a b : Member) : Type 0 where
    pub goes : ServesOn rules a b
    pub tried : Contains goes.calls (Tried o)
    pub ops : List ℕ
    pub visits : VisitsAll ops a b
    pub first : Contains ops o
