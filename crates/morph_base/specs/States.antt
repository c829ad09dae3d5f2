-- The state, the state after an event, and the fold of a batch in timestamp order
use Rattle.std.specs.Prelude.{◌≡◌, ◌≤◌, ℕ, zero, suc, Bool, true, ◌&&◌, if◌then◌else◌, List, [], ◌∷◌, map, take, Option, is_some, unwrap_or}
use Rattle.morph_base.specs.declared.key.Key.{Key}
use Rattle.morph_base.specs.declared.operation.Op.{Op}
use Rattle.morph_base.specs.declared.batch.Batch.{Batch}
use Rattle.morph_base.specs.Functions.{value_of}
use Rattle.morph_base.specs.Operations.{reads, same_key}
use Rattle.morph_base.specs.Transactions.{Transaction, transactions_of, by_time}

-- A value for each key. A stored state has 0 at the keys outside its layout
abbrev pub State : Type 0
State = Key → ℕ

-- No key has a value above the bound in the state
abbrev pub IsUpTo : (bound : ℕ) → State → Type 0
IsUpTo bound s = (key : Key) → s key ≤ bound

-- The state at the start of a run: 0 at every key
abbrev pub opening_state : State
opening_state key = 0

-- What an operation answers in a state: its value on the values of the keys that it reads
abbrev pub answer : State → Op → Option ℕ
answer s op = value_of op (map s (reads op))

-- The test whether no operation of a list fails in the state
unfoldable pub all_answer : State → List Op → Bool
all_answer s [] = true
all_answer s (op ∷ ops) = is_some (answer s op) && all_answer s ops

-- The state with each target set to its operation's answer. All answers are those in the state before
unfoldable pub with_answers : State → List Op → State
with_answers s [] key = s key
with_answers s (op ∷ ops) key = if same_key op.key key then unwrap_or (answer s op) (s key) else with_answers s ops key

-- A transaction commits in a state if none of its operations fails there
abbrev pub commits : State → Transaction → Bool
commits s e = all_answer s e.ops

-- The state after a transaction: with its operations' answers if it commits, and unchanged if not
unfoldable pub after : State → Transaction → State
after s e key = if commits s e then with_answers s e.ops key else s key

-- The state after the transactions of a list, one after another
unfoldable pub after_all : State → List Transaction → State
after_all s [] = s
after_all s (e ∷ es) = after_all (after s e) es

-- The state t is the state after the first few of the transactions, from s on
pub record IsAfterSome (s : State) (es : List Transaction) (t : State) : Type 0 where
  pub count : ℕ
  pub reached : t ≡ after_all s (take count es)

-- The state after a batch: after its transactions by rising time, one at a time. Every way of running a batch has to
-- reach this state
abbrev pub fold_batch : Batch → State → State
fold_batch batch s = after_all s (by_time (transactions_of batch))

-- The state with places overwritten one after another: for each number below n, in order, its value is put at its
-- target
unfoldable pub overwritten : (target : ℕ → Key) (value : ℕ → ℕ) → State → ℕ → State
overwritten target value s zero key = s key
overwritten target value s (suc n) key = if same_key (target n) key then value n else overwritten target value s n key
