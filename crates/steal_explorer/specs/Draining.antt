-- What becomes of items that are left in a deque once all workers have returned
use Rattle.std.specs.Prelude.{◌≡◌, ℕ, ◌<◌, ◌≤◌, cond, nat_lt, List, [], Contains, count_by, sum_by, length, slice_index_or}
use Rattle.crossbeam_deque.specs.Handles.{worker_flavor}
use Rattle.morph_base.specs.declared.plan.Plan.{Plan}
use Rattle.morph_base.specs.Plans.{op_count}
use Rattle.op_words.specs.declared.board.Board.{Board}
use Rattle.op_eval.specs.declared.explored.RunEnd.{RunEnd}
use Rattle.op_eval.specs.declared.explored.RunEnd.TheVariants.{Whole, Drained, Spent}
use Rattle.op_eval.specs.declared.runner.Runner.{Runner}
use Rattle.op_eval.specs.Exploring.{RunRules}
use Rattle.steal_explorer.specs.declared.member.Member.{Member}
use Rattle.steal_explorer.specs.Calls.{ServeCall, Tried, is_tried, MakesServeCalls, WalkedUnit}
use Rattle.steal_explorer.specs.Handing.{whole, got, spare, came, gone}
use Rattle.steal_explorer.specs.Members.{Owner, own}
use Rattle.op_eval.specs.Running.{IsFreeRunner}

-- All items that came into the worker's deque have left it
abbrev pub IsEven : Member → Type 0
IsEven m = (h : ℕ → ℕ) → came h (own m) ≡ gone h (own m)

-- The items of the worker's deque were left with nobody
pub record IsLeftWithNobody (a b : Member) : Type 0 where
  pub owner : Owner
  pub is : b ≡ record a { owner = owner }
  pub items : List ℕ
  pub left : own b ≡ spare (own a) items
  pub even : IsEven b

-- The unit of o was walked if o is an operation of the plan. Else nothing was done
abbrev pub WalkedKnown : RunRules → (o : ℕ) → Runner → Runner → Type 0
WalkedKnown rules o a b = (o < op_count rules.plan → WalkedUnit rules o a b) × (op_count rules.plan ≤ o → b ≡ a)

-- The number 1 if the item is one of the plan's operations, else 0
abbrev pub in_plan : Plan → ℕ → ℕ
in_plan p x = cond (nat_lt x (op_count p)) 1 0

-- The worker took the items of its deque, and tried each that is one of the plan's operations, in a call of its own
pub record IsCleared (p : Plan) (cap : ℕ) (a b : Member) : Type 0 where
  pub owner : Owner
  pub is : b ≡ record a { runner = b.runner; owner = owner }
  pub items : List ℕ
  pub popped : own b ≡ got (own a) items
  pub calls : List ServeCall
  pub made : MakesServeCalls p cap calls a.runner b.runner
  pub tried : (x : ℕ) → Contains items x → x < op_count p → Contains calls (Tried x)
  pub many : sum_by (in_plan p) items ≤ count_by is_tried calls
  pub quiet : items ≡ [] → b.runner ≡ a.runner
  pub even : IsEven b

-- The worker has all parts of its deque, and its runner holds nothing
pub record HasAll (b : Board) (m : Member) : Type 0 where
  pub idle : IsFreeRunner b m.runner
  pub fifo : worker_flavor m.owner ≡ 0
  pub all : (own m).parts ≡ whole

-- The worker's deque was emptied in the way that this cause of its end asks for
abbrev pub IsEmptiedBy : Plan → (cap : ℕ) → RunEnd → Member → Member → Type 0
IsEmptiedBy p cap Drained a b = IsCleared p cap a b
IsEmptiedBy p cap Spent a b = IsLeftWithNobody a b
IsEmptiedBy p cap Whole a b = IsLeftWithNobody a b

-- The worker's deque was emptied in the way that the cause of its end asks for
abbrev pub IsEmptied : Plan → (cap : ℕ) → Member → Member → Type 0
IsEmptied p cap a b = IsEmptiedBy p cap a.end a b

-- The deque of each worker was emptied in the way that the cause of its end asks for
pub record AreEmptied (p : Plan) (cap : ℕ) (ms ns : List Member) : Type 0 where
  pub len : length ns ≡ length ms
  pub each : (k : ℕ) (m : Member) → k < length ms → IsEmptied p cap (slice_index_or ms k m) (slice_index_or ns k m)
