-- A plan: what its numbers name, when it is valid, what the fold makes of it, and what a `Settled` of it is
use Rattle.std.specs.Prelude.{◌≡◌, ℕ, ◌+◌, ◌≤◌, ◌<◌, Bool, List, [], ◌∷◌, length, take, drop, map, All, Option, Some, None, if◌then◌else◌, unwrap_or, slice_index, slice_index_or}
use Rattle.morph_base.specs.declared.limits.TheConstants.{READS}
use Rattle.morph_base.specs.declared.key.Key.{Key}
use Rattle.morph_base.specs.declared.key.Layout.{Layout}
use Rattle.morph_base.specs.declared.batch.Batch.{Batch}
use Rattle.morph_base.specs.declared.plan.Origin.{Origin}
use Rattle.morph_base.specs.declared.plan.Origin.TheVariants.{Base, Op as Written}
use Rattle.morph_base.specs.declared.plan.PlanOp.{PlanOp}
use Rattle.morph_base.specs.declared.plan.PlanEvent.{PlanEvent}
use Rattle.morph_base.specs.declared.plan.Plan.{Plan}
use Rattle.morph_base.specs.declared.plan.Settled.{Settled}
use Rattle.morph_base.specs.Operations.{reads, same_key, no_key, InLayout}
pub use Rattle.morph_base.specs.Operations.{no_op}
pub use Rattle.morph_base.specs.Readers.{no_plan_op}
use Rattle.morph_base.specs.Transactions.{Transaction, transactions_of, by_time}
use Rattle.morph_base.specs.States.{State, after_all, commits}
use Rattle.morph_base.specs.Limits.{most_workers}
use Rattle.morph_base.specs.Numbering.{numbers, EventNumbers, IsNumbering, IsWithin}
use Rattle.morph_base.specs.Sources.{IsSource, IsLastWriter, IsUnwritten}

-- The event that is read past the end of a plan's events
abbrev pub no_event : PlanEvent
no_event = record { ts = 0; first = 0; count = 0; level = 0 }

-- The transaction of an event whose operations are among `ops`
abbrev pub transaction_in : List PlanOp → PlanEvent → Transaction
transaction_in ops e = record { ts = e.ts; ops = map (λ q. q.op) (take e.count (drop e.first ops)) }

module _ (p : Plan) where
  -- The number of events of a plan
  abbrev pub event_count : ℕ
  event_count = length p.events.items

  -- The number of operations of a plan
  abbrev pub op_count : ℕ
  op_count = length p.ops.items

  -- Event i of a plan
  abbrev pub event_at : ℕ → PlanEvent
  event_at i = slice_index_or p.events.items i no_event

  -- Operation o of a plan
  abbrev pub op_at : ℕ → PlanOp
  op_at o = slice_index_or p.ops.items o no_plan_op

  -- The event that operation o belongs to
  abbrev pub event_of : ℕ → ℕ
  event_of o = (op_at o).event

  -- The key that operation o changes
  abbrev pub target : ℕ → Key
  target o = (op_at o).op.key

  -- The greatest value of a plan, which is that of its operations. No value of the plan is above it
  unfoldable pub high_of : ℕ
  high_of = (op_at 0).op.high

  -- The keys that operation o reads, place by place
  abbrev pub keys_of : ℕ → List Key
  keys_of o = reads (op_at o).op

  -- The key that operation o reads at place j
  abbrev pub key_at : ℕ → ℕ → Key
  key_at o j = slice_index_or (keys_of o) j no_key

  -- Where the value at place j of operation o comes from
  abbrev pub origin_at : ℕ → ℕ → Origin
  origin_at o j = slice_index_or (op_at o).origins j (Base 0)

  -- The sources of the places that operation o uses, its target's first
  abbrev pub origins_of : ℕ → List Origin
  origins_of o = take (length (keys_of o)) (op_at o).origins

  -- Operation o is one of event i's
  abbrev pub InEvent : ℕ → ℕ → Type 0
  InEvent i o = IsWithin (event_at i).first (event_at i).count o

  -- The events of a plan as transactions, by rising time
  abbrev pub transactions : List Transaction
  transactions = map (transaction_in p.ops.items) p.events.items

  -- Event i of a plan as a transaction
  abbrev pub transaction_at : ℕ → Transaction
  transaction_at i = transaction_in p.ops.items (event_at i)

  -- The operation is the plan's last one before the event that changes the key
  abbrev pub IsLastWriterIn : ℕ → Key → ℕ → Type 0
  IsLastWriterIn = IsLastWriter op_count target event_of

  -- No operation of the plan before the event changes the key
  abbrev pub IsUnwrittenIn : ℕ → Key → Type 0
  IsUnwrittenIn = IsUnwritten op_count target event_of

  -- A read of the key in the event has its value from this origin, among the operations of the plan
  abbrev pub IsSourceIn : ℕ → Key → Origin → Type 0
  IsSourceIn = IsSource op_count target event_of

  -- Each base value in the plan is that of its key in the state s
  abbrev pub HasBases : State → Type 0
  HasBases s = (o j v : ℕ) → o < op_count → j < length (keys_of o) → origin_at o j ≡ Base v → v ≡ s (key_at o j)

  -- All keys that the plan's operations read are in the layout
  abbrev pub PlanKeysIn : Layout → Type 0
  PlanKeysIn layout = (o : ℕ) → o < op_count → All (InLayout layout) (keys_of o)

-- The base value that a list of places has for a key, or None if it has none
unfoldable pub base_in : List Key → List Origin → Key → Option ℕ
base_in [] origins key = None
base_in (k ∷ ks) [] key = None
base_in (k ∷ ks) (Base v ∷ origins) key = if same_key k key then Some v else base_in ks origins key
base_in (k ∷ ks) (Written s ∷ origins) key = base_in ks origins key

-- The state before the batch as far as the bases of the operations show it, and 0 elsewhere
unfoldable pub opening_of : List PlanOp → State
opening_of [] key = 0
opening_of (q ∷ qs) key = unwrap_or (base_in (reads q.op) q.origins key) (opening_of qs key)

-- The state before the batch as far as the plan's bases show it, and 0 elsewhere
abbrev pub opening : Plan → State
opening p = opening_of p.ops.items

-- The numbers of a plan's events
abbrev pub numbers_of : Plan → EventNumbers
numbers_of p = numbers (event_count p) (λ i. (event_at p i).ts) (λ i. (event_at p i).first) (λ i. (event_at p i).count)

-- The plan is valid. It is well numbered, all its operations have its greatest value, each used place has its source,
-- each unused place is `Base 0`, a key has one base value throughout, and no base value is above the greatest value
pub record IsPlan (p : Plan) : Type 0 where
  pub numbering : IsNumbering (numbers_of p) (op_count p) (event_of p) (λ o. (op_at p o).op)
  pub alike : (o : ℕ) → o < op_count p → (op_at p o).op.high ≡ high_of p
  pub places : (o : ℕ) → o < op_count p → length (op_at p o).origins ≡ READS
  pub unused : (o j : ℕ) → o < op_count p → length (keys_of p o) ≤ j → j < READS → origin_at p o j ≡ Base 0
  pub sources : (o j : ℕ) → o < op_count p → j < length (keys_of p o)
      → IsSourceIn p (event_of p o) (key_at p o j) (origin_at p o j)
  pub bases : HasBases p (opening p)
  pub small : (o j v : ℕ) → o < op_count p → j < length (keys_of p o) → origin_at p o j ≡ Base v → v ≤ high_of p

-- The plan has the batch's transactions, by rising time
abbrev pub IsPlanOf : Batch → Plan → Type 0
IsPlanOf batch p = transactions p ≡ by_time (transactions_of batch)

-- The fold of a plan, from a state s before the batch
module _ (p : Plan) (s : State) where
  -- The state after the first i events, by the fold from s
  unfoldable pub state_at : ℕ → State
  state_at i = after_all s (take i (transactions p))

  -- The verdict on event i, by the fold from s: whether it commits
  unfoldable pub commits_at : ℕ → Bool
  commits_at i = commits (state_at i) (transaction_at p i)

  -- The value of operation o, by the fold from s: that of its target in the state after its event
  unfoldable pub value_at : ℕ → ℕ
  value_at o = state_at (event_of p o + 1) (target p o)

-- The value of an operation by the fold from the plan's own bases: what a settled plan has to show
abbrev pub final : Plan → ℕ → ℕ
final p = value_at p (opening p)

-- The verdict on an event by the fold from the plan's own bases
abbrev pub verdict : Plan → ℕ → Bool
verdict p = commits_at p (opening p)

-- The `Settled` r has the fold's value for each operation, the fold's verdict for each event, and for each operation a
-- worker's number of at most `most_workers`, or 0
pub record IsSettledOf (p : Plan) (r : Settled) : Type 0 where
  pub values : length r.values.items ≡ op_count p
  pub verdicts : length r.committed.items ≡ event_count p
  pub workers : length r.by.items ≡ op_count p
  pub tags : All (λ w. w ≤ most_workers) r.by.items
  pub value : (o : ℕ) → o < op_count p → slice_index r.values.items o ≡ final p o
  pub committed : (i : ℕ) (d : Bool) → i < event_count p → slice_index_or r.committed.items i d ≡ verdict p i

-- The sources of a list of places, with each `Base` at a used place replaced by the value of its key in the state
unfoldable pub filled_in : State → List Key → List Origin → List Origin
filled_in s ks [] = []
filled_in s [] (origin ∷ origins) = origin ∷ origins
filled_in s (k ∷ ks) (Base v ∷ origins) = Base (s k) ∷ filled_in s ks origins
filled_in s (k ∷ ks) (Written t ∷ origins) = Written t ∷ filled_in s ks origins

-- The operation with each base at a used place replaced by the value of its key in the state
abbrev pub filled : State → PlanOp → PlanOp
filled s q = record q { origins = filled_in s (reads q.op) q.origins }

-- The plan with each base at a used place replaced by the value of its key in the state
abbrev pub filled_plan : State → Plan → Plan
filled_plan s p = record p { ops = record p.ops { items = map (filled s) p.ops.items } }
