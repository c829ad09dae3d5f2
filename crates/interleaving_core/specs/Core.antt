-- The state of the machine: what all workers share, what each one holds, and all that was ever shown and settled
use Rattle.std.specs.Prelude.{◌≡◌, ℕ, Bool, true, ◌&&◌, ◌==◌, ◌⊎◌, if◌then◌else◌, List, [], length, Contains, Option, Some, None, count_by}
use Rattle.morph_base.specs.declared.plan.Origin.{Origin}
use Rattle.morph_base.specs.declared.plan.Origin.TheVariants.{Base, Op as Written}
use Rattle.morph_base.specs.declared.plan.Plan.{Plan}
use Rattle.morph_base.specs.declared.word.OpWord.{OpWord}
use Rattle.morph_base.specs.Plans.{keys_of}
use Rattle.morph_base.specs.Clean.{from}
use Rattle.morph_base.specs.Known.{IsKnown}
use Rattle.morph_base.specs.Words.{is_settled}
pub use Rattle.morph_base.specs.Words.{blocked, ready, claimed, executed, failed, spread, settled, settled_aborted, ended, finished, has_run, is_shown, is_failed, is_open}
use Rattle.interleaving_core.specs.declared.entry.Record.{Record}
use Rattle.interleaving_core.specs.declared.entry.Held.{Held}
use Rattle.interleaving_core.specs.declared.entry.Entry.{Entry}
use Rattle.interleaving_core.specs.declared.entry.Settling.{Settling}

-- A state of the machine: a word for each operation, records, decisions on events, what workers hold, and all values
-- shown and settlings
pub record Core : Type 0 where
  -- The word of each operation, and its record at each place, if there is one
  pub word : ℕ → OpWord
  pub recorded : ℕ → ℕ → Option Record
  -- What each worker holds
  pub claim : ℕ → Option Held
  -- The decision on each event, if there is one: whether it commits
  pub decision : ℕ → Option Bool
  -- All values that were ever shown, and all settlings
  pub published : List Entry
  pub settlings : List Settling

-- The function f with the value a at number i
unfoldable pub put : {A : Type 0} → (ℕ → A) → ℕ → A → ℕ → A
put f i a j = if j == i then a else f j

-- ---- entries

-- The entry that shows word w of operation o
abbrev pub entry_of : ℕ → OpWord → Entry
entry_of o w = record { op = o; attempt = w.attempt; value = w.value; failed = is_failed w.state }

-- How often operation o was shown at attempt a
abbrev pub entries_at : ℕ → ℕ → List Entry → ℕ
entries_at o a es = count_by (λ e. (e.op == o) && (e.attempt == a)) es

-- How often operation o was settled
abbrev pub settlings_at : ℕ → List Settling → ℕ
settlings_at o xs = count_by (λ x. x.op == o) xs

-- The value x was shown for operation o
pub record HasShown (es : List Entry) (o x : ℕ) : Type 0 where
  pub entry : Entry
  pub inside : Contains es entry
  pub op_is : entry.op ≡ o
  pub value_is : entry.value ≡ x

-- The values that a worker has fetched for the operation that it holds
abbrev pub fetched : Option Held → List ℕ
fetched None = []
fetched (Some h) = h.values

-- The value of a record, or 0 if there is none
abbrev pub record_value : Option Record → ℕ
record_value None = 0
record_value (Some r) = r.value

-- ---- sources

-- How many places operation o reads
abbrev pub places : Plan → ℕ → ℕ
places p o = length (keys_of p o)

-- Operation o is settled
abbrev pub IsSettledIn : Core → ℕ → Type 0
IsSettledIn c o = is_settled (c.word o).state ≡ true

-- The value that operation o has now
abbrev pub value_in : Core → ℕ → ℕ
value_in c o = (c.word o).value

-- The source is settled with the value x. A base counts as settled, with its own value
abbrev pub IsSettledAs : Core → Origin → ℕ → Type 0
IsSettledAs c origin x = IsKnown (IsSettledIn c) origin × (from (value_in c) origin ≡ x)

-- The value x is a version of the source: its settled value, or one that was shown for it
abbrev pub IsVersion : Core → Origin → ℕ → Type 0
IsVersion c (Base v) x = v ≡ x
IsVersion c (Written s) x = IsSettledAs c (Written s) x ⊎ HasShown c.published s x

-- The state at the start
abbrev pub start : Core
start = record { word = λ o. blocked 1; recorded = λ o j. None; claim = λ t. None; decision = λ i. None; published = []; settlings = [] }
