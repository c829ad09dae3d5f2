-- Events as transactions: plain records, without the room of their lists
use Rattle.std.specs.Prelude.{◌≡◌, ℕ, ◌≤◌, ◌<◌, nat_le, if◌then◌else◌, List, [], ◌∷◌, length, map, take, drop, All}
use Rattle.std.specs.List.{IsDistinct}
use Rattle.std.specs.Prelude.{nat_eq}
use Rattle.morph_base.specs.declared.limits.TheConstants.{MAX, EVENT_OPS, EVENTS}
use Rattle.morph_base.specs.Limits.{latest_time}
use Rattle.morph_base.specs.declared.key.Key.{Key}
use Rattle.morph_base.specs.declared.key.Layout.{Layout}
use Rattle.morph_base.specs.declared.operation.Op.{Op}
use Rattle.morph_base.specs.declared.event.Event.{Event}
use Rattle.morph_base.specs.declared.batch.EventHead.{EventHead}
use Rattle.morph_base.specs.declared.batch.Batch.{Batch}
use Rattle.morph_base.specs.Operations.{high_in, IsShaped, InLayout, reads, same_key}

-- A time, and the operations that are done together at that time
pub record Transaction : Type 0 where
  pub ts : ℕ
  pub ops : List Op

-- The transaction of this time, with these operations
abbrev pub transaction : ℕ → List Op → Transaction
transaction ts ops = record { ts = ts; ops = ops }

-- What stands for a transaction past the end of a list
abbrev pub no_transaction : Transaction
no_transaction = transaction 0 []

-- The event as a transaction
abbrev pub transaction_of : Event → Transaction
transaction_of e = transaction e.ts e.ops

-- The event that has its operations in a list of all
abbrev pub transaction_by : List Op → EventHead → Transaction
transaction_by ops head = transaction head.ts (take head.count (drop head.first ops))

-- The events of a batch as transactions, in order of arrival
abbrev pub transactions_of : Batch → List Transaction
transactions_of batch = map (transaction_by batch.ops) batch.heads.items

-- All operations that a batch keeps: those of its events, and what a refused push left
abbrev pub kept_ops : Batch → List Op
kept_ops batch = batch.ops

-- The keys that a transaction changes, in operation order
abbrev pub targets : Transaction → List Key
targets e = map (λ op. op.key) e.ops

-- The time of a transaction
abbrev pub time : Transaction → ℕ
time e = e.ts

-- The transaction has a time from 1 to `latest_time`, and 1 to EVENT_OPS operations of valid shape, whose targets
-- differ
pub record IsTransaction (e : Transaction) : Type 0 where
  pub after_start : 0 < e.ts
  pub latest : e.ts ≤ latest_time
  pub some : 0 < length e.ops
  pub few : length e.ops ≤ EVENT_OPS
  pub shaped : All IsShaped e.ops
  pub distinct : IsDistinct same_key (targets e)

-- All keys that the transaction's operations read are in the layout
abbrev pub HasKeysIn : Layout → Transaction → Type 0
HasKeysIn layout e = All (λ op. All (InLayout layout) (reads op)) e.ops

-- All operations of the transaction have the greatest value `high`
abbrev pub HasHigh : ℕ → Transaction → Type 0
HasHigh high e = All (λ op. op.high ≡ high) e.ops

-- The greatest value of some transactions: that of the first operation of the first one, or MAX if there is none
abbrev pub high_of_all : List Transaction → ℕ
high_of_all [] = MAX
high_of_all (e ∷ es) = high_in e.ops

-- There are at most EVENTS transactions. All are valid, their times differ, and all their operations have one greatest
-- value
pub record IsBatchOf (es : List Transaction) : Type 0 where
  pub few : length es ≤ EVENTS
  pub valid : All IsTransaction es
  pub times : IsDistinct nat_eq (map time es)
  pub alike : All (HasHigh (high_of_all es)) es

-- The transactions of the batch are a valid batch
abbrev pub IsBatch : Batch → Type 0
IsBatch batch = IsBatchOf (transactions_of batch)

-- All keys that the batch's transactions read are in the layout
abbrev pub BatchKeysIn : Layout → Batch → Type 0
BatchKeysIn layout batch = All (HasKeysIn layout) (transactions_of batch)

-- The list with the transaction e put before the first one that is not earlier
abbrev pub in_front_of_later : Transaction → List Transaction → List Transaction
in_front_of_later e [] = e ∷ []
in_front_of_later e (f ∷ fs) = if nat_le e.ts f.ts then e ∷ f ∷ fs else f ∷ in_front_of_later e fs

-- The transactions by rising time. The law of time says that this is their only rising order if their times differ
unfoldable pub by_time : List Transaction → List Transaction
by_time [] = []
by_time (e ∷ es) = in_front_of_later e (by_time es)
