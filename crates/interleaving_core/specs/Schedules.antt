-- What soundness means, whatever the order of steps
use Rattle.std.specs.Prelude.{◌≡◌, ℕ, ◌+◌, ◌*◌, ◌≤◌, ◌<◌, ◌⊎◌, ◌==◌, Bool, true, false, List, length, Contains, Some, count_by}
use Rattle.morph_base.specs.declared.plan.Plan.{Plan}
use Rattle.morph_base.specs.declared.word.OpState.TheVariants.{Settled, SettledAborted}
use Rattle.morph_base.specs.Plans.{op_count, event_count, origin_at, final, verdict}
use Rattle.interleaving_core.specs.declared.entry.Record.{Record}
use Rattle.interleaving_core.specs.declared.entry.Entry.{Entry}
use Rattle.interleaving_core.specs.declared.entry.Settling.{Settling}
use Rattle.interleaving_core.specs.declared.event.CoreEvent.{CoreEvent}
use Rattle.interleaving_core.specs.declared.event.CoreEvent.TheVariants.{Finish, Spread as SpreadStep, Settle}
use Rattle.interleaving_core.specs.Core.{Core, is_shown, entries_at, settlings_at, places, IsSettledIn, value_in, IsSettledAs}

module _ (p : Plan) (c : Core) where
  -- Operation o of a committed event rests on an aborted version: one of its records is not the settled value of the
  -- source there
  pub record IsCommittedOnAborted (o : ℕ) : Type 0 where
    pub state_is : (c.word o).state ≡ Settled
    pub place : ℕ
    pub in_places : place < places p o
    pub kept : Record
    pub is_kept : c.recorded o place ≡ Some kept
    pub unlike : IsSettledAs c (origin_at p o place) kept.value → ⊥

  -- Operation o of an aborted event rests on an aborted version: its value is not the settled value of its target's
  -- source
  pub record IsCarriedFromAborted (o : ℕ) : Type 0 where
    pub state_is : (c.word o).state ≡ SettledAborted
    pub unlike : IsSettledAs c (origin_at p o 0) (value_in c o) → ⊥

  -- The settled value of operation o rests on an aborted version
  abbrev pub RestsOnAborted : ℕ → Type 0
  RestsOnAborted o = IsCommittedOnAborted o ⊎ IsCarriedFromAborted o

  -- Settled values and decisions are the fold's
  pub record IsFold : Type 0 where
    pub values : (o : ℕ) → o < op_count p → IsSettledIn c o → value_in c o ≡ final p o
    pub verdicts :
        (i : ℕ) (committed : Bool) → c.decision i ≡ Some committed → (i < event_count p) × (committed ≡ verdict p i)

  -- Each operation is settled at most once, by the worker that its word names
  pub record IsSettledOnce : Type 0 where
    pub once : (o : ℕ) → settlings_at o c.settlings ≤ 1
    pub by_word :
        (x : Settling) → Contains c.settlings x → (x.op < op_count p) × IsSettledIn c x.op × (x.by ≡ (c.word x.op).by)

-- Each attempt is shown at most once, there are at most cap + 1 of them for each operation, and the last rests on
-- settled values alone
pub record HasFewAttempts (p : Plan) (cap : ℕ) (c : Core) : Type 0 where
  pub once : (o a : ℕ) → entries_at o a c.published ≤ 1
  pub attempts : (e : Entry) → Contains c.published e → (e.op < op_count p) × (1 ≤ e.attempt) × (e.attempt ≤ cap + 1)
  pub few : (o : ℕ) → count_by (λ e. e.op == o) c.published ≤ cap + 1
  pub last : (o j : ℕ) (r : Record) → o < op_count p → is_shown (c.word o).state ≡ true → (c.word o).attempt ≡ cap + 1
      → j < places p o
      → c.recorded o j ≡ Some r → IsSettledAs c (origin_at p o j) r.value
  pub all : length c.published ≤ op_count p * (cap + 1)

-- The test whether a step settles operation o
abbrev pub settles : ℕ → CoreEvent → Bool
settles o (Settle i t) = i == o
settles o e = false

-- The test whether a step shows a value
abbrev pub shows : CoreEvent → Bool
shows (Finish o t) = true
shows (SpreadStep o sibling) = true
shows e = false

-- The lists agree with the steps: each operation has as many settlings as there are steps that settle it, and there are
-- as many entries as steps that show a value
pub record TellsSteps (es : List CoreEvent) (c : Core) : Type 0 where
  pub settlings : (o : ℕ) → settlings_at o c.settlings ≡ count_by (settles o) es
  pub entries : length c.published ≡ count_by shows es
