-- What the calls of an explorer on the board make of a runner
use Rattle.std.specs.Prelude.{◌≡◌, ℕ, ◌<◌, Bool, true, false, List, All, Contains}
use Rattle.morph_base.specs.declared.plan.Plan.{Plan}
use Rattle.morph_base.specs.declared.strategy.Abort.{Abort}
use Rattle.morph_base.specs.declared.strategy.Abort.TheVariants.{Lazy}
use Rattle.morph_base.specs.Plans.{op_count}
use Rattle.op_words.specs.declared.answers.Readied.{Readied}
use Rattle.op_words.specs.Calls.{MakeDoes}
use Rattle.op_eval.specs.declared.answers.Evaluation.{Evaluation}
use Rattle.op_eval.specs.declared.runner.Runner.{Runner}
use Rattle.op_eval.specs.Evaluations.{Tries}
use Rattle.op_eval.specs.Running.{hand_view}
use Rattle.op_eval.specs.Turns.{CallsInOrder}
use Rattle.abort_eager.specs.declared.answers.Target.{Target}
use Rattle.abort_eager.specs.declared.answers.Touched.{Touched}
use Rattle.op_eval.specs.Exploring.{RunRules}
use Rattle.abort_eager.specs.Sweeps.{SweepsOne, Attempts}

-- The runner asked whether an operation can be made ready, tried to evaluate it, or touched a target of a cascade
pub data ServeCall : Type 0 where
  Asked : (op : ℕ) → ServeCall
  Tried : (op : ℕ) → ServeCall
  Swept : (target : Target) → ServeCall

-- The test whether a call tried an operation
abbrev pub is_tried : ServeCall → Bool
is_tried (Asked o) = false
is_tried (Tried o) = true
is_tried (Swept g) = false

-- The test whether a call asked an operation
abbrev pub is_asked : ServeCall → Bool
is_asked (Asked o) = true
is_asked (Tried o) = false
is_asked (Swept g) = false

-- The test whether a call touched a target of a cascade
abbrev pub is_swept : ServeCall → Bool
is_swept (Asked o) = false
is_swept (Tried o) = false
is_swept (Swept g) = true

-- Under lazy abort no target of a cascade was touched
abbrev pub NoneSwept : Abort → List ServeCall → Type 0
NoneSwept abort cs = abort ≡ Lazy → All (λ c. is_swept c ≡ false) cs

-- The runner asked operation o, and only its view changed
pub record AsksWhetherReady (p : Plan) (cap o : ℕ) (before after : Runner) (r : Readied) : Type 0 where
  pub in_range : o < op_count p
  pub does : MakeDoes p cap o (hand_view before) (hand_view after) r
  pub answers : after.answers ≡ before.answers
  pub kept : after.kept ≡ before.kept

-- The call led from runner a to runner b
abbrev pub MakesServeCall : Plan → (cap : ℕ) → ServeCall → Runner → Runner → Type 0
MakesServeCall p cap (Asked o) a b = (r : Readied) × AsksWhetherReady p cap o a b r
MakesServeCall p cap (Tried o) a b = (r : Evaluation) × Tries p cap o a b r
MakesServeCall p cap (Swept g) a b = (t : Touched) × SweepsOne p cap g a b t

-- The calls, the last one first, led from runner a to runner b
abbrev pub MakesServeCalls : Plan → (cap : ℕ) → List ServeCall → Runner → Runner → Type 0
MakesServeCalls p cap = CallsInOrder (MakesServeCall p cap)

-- These operations were tried in turn, the last one first, and after each the cascade that follows was run
abbrev pub Attempting : RunRules → List ℕ → Runner → Runner → Type 0
Attempting rules = CallsInOrder (λ o a b. (r : Evaluation) × Attempts rules o a b r)

-- A unit was walked from operation o on: operations were tried, o among them, the cascades that follow were run, and no
-- operation was asked
pub record WalkedUnit (rules : RunRules) (o : ℕ) (a b : Runner) : Type 0 where
  pub ops : List ℕ
  pub attempts : Attempting rules ops a b
  pub first : Contains ops o
  pub calls : List ServeCall
  pub made : MakesServeCalls rules.plan rules.cap calls a b
  pub tried : Contains calls (Tried o)
  pub only : All (λ c. is_asked c ≡ false) calls
  pub lazy : NoneSwept rules.abort calls
