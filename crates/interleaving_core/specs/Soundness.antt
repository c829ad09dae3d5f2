-- Which states of the machine are sound: what holds of each word, of each claim and of the decisions
use Rattle.std.specs.Prelude.{◌≡◌, ℕ, ◌+◌, ◌-◌, ◌≤◌, ◌<◌, Bool, true, false, cond, List, length, Contains, Option, Some, slice_index}
use Rattle.morph_base.specs.declared.plan.Plan.{Plan}
use Rattle.morph_base.specs.declared.word.OpState.TheVariants.{Claimed, Spread, Settled, SettledAborted}
use Rattle.morph_base.specs.declared.word.OpWord.{OpWord}
use Rattle.morph_base.specs.Plans.{high_of, event_count, op_count, op_at, event_of, origin_at, final, verdict}
use Rattle.morph_base.specs.Clean.{source, outcome}
use Rattle.morph_base.specs.Known.{IsKnown, AreKnown}
use Rattle.morph_base.specs.Words.{IsWord, is_idle, is_settled}
use Rattle.interleaving_core.specs.declared.entry.Record.{Record}
use Rattle.interleaving_core.specs.declared.entry.Held.{Held}
use Rattle.interleaving_core.specs.declared.entry.Entry.{Entry}
use Rattle.interleaving_core.specs.declared.entry.Settling.{Settling}
use Rattle.interleaving_core.specs.Core.{Core, claimed, finished, has_run, is_shown, entry_of, entries_at, settlings_at, places, IsSettledIn, value_in, IsSettledAs, IsVersion}
use Rattle.interleaving_core.specs.Steps.{RecordsAgree}

-- The word w is in range: its value is at most the greatest of the plan, its attempt is at most one above the cap, and
-- it is spread only after the first attempt and not above the cap
pub record IsInRange (p : Plan) (cap : ℕ) (w : OpWord) : Type 0 where
  pub word : IsWord w
  pub small : w.value ≤ high_of p
  pub most : w.attempt ≤ cap + 1
  pub spread : w.state ≡ Spread → (2 ≤ w.attempt) × (w.attempt ≤ cap)

-- If the word w of operation o is claimed, the claim of its worker is o
abbrev pub IsHeld : (ℕ → Option Held) → ℕ → OpWord → Type 0
IsHeld claim o w = w.state ≡ Claimed → (h : Held) × (claim w.by ≡ Some h) × (h.op ≡ o)

-- All records of operation o are of attempt a, with the values xs
pub record HasRecords (p : Plan) (recorded : ℕ → Option Record) (o : ℕ) (xs : List ℕ) (a : ℕ) : Type 0 where
  pub len : length xs ≡ places p o
  pub each : (j : ℕ) → j < places p o → recorded j ≡ Some (record { value = slice_index xs j; attempt = a })

-- The word w follows from the records of operation o. An executed or failed word is what the function makes of the
-- records of its attempt, and a spread word has the first record of the attempt before
pub record Follows (p : Plan) (recorded : ℕ → Option Record) (o : ℕ) (w : OpWord) : Type 0 where
  pub run : has_run w.state ≡ true
      → (xs : List ℕ) × HasRecords p recorded o xs w.attempt × (w ≡ finished (op_at p o).op w.attempt xs)
  pub spread :
      w.state ≡ Spread → (xs : List ℕ) × HasRecords p recorded o xs (w.attempt - 1) × (w.value ≡ slice_index xs 0)

-- Operation o was shown at most once at each attempt, and at none above its word's. If its word is idle, it was not
-- shown at this attempt. If its word is shown, the word itself is there
pub record IsPublishedOnce (published : List Entry) (o : ℕ) (w : OpWord) : Type 0 where
  pub once : (a : ℕ) → entries_at o a published ≤ 1
  pub below : (e : Entry) → Contains published e → e.op ≡ o → (1 ≤ e.attempt) × (e.attempt ≤ w.attempt)
  pub not_yet : is_idle w.state ≡ true → entries_at o w.attempt published ≡ 0
  pub shown : is_shown w.state ≡ true → Contains published (entry_of o w)

-- The settled word w of operation o is right: its event is committed, its sources are settled, its records are their
-- values, and its value is what the function gives on them, which is the fold's
pub record IsSettledRight (p : Plan) (c : Core) (o : ℕ) (w : OpWord) : Type 0 where
  pub decided : c.decision (event_of p o) ≡ Some true
  pub sources : AreKnown p (IsSettledIn c) o
  pub records : RecordsAgree p c o
  pub answer : outcome p (value_in c) o ≡ Some w.value
  pub value_is : w.value ≡ final p o

-- The settled-aborted word w of operation o is right: its event is aborted, the source of its target is settled, and
-- its value is that source's, which is the fold's
pub record IsAbortedRight (p : Plan) (c : Core) (o : ℕ) (w : OpWord) : Type 0 where
  pub decided : c.decision (event_of p o) ≡ Some false
  pub target : IsKnown (IsSettledIn c) (origin_at p o 0)
  pub carries : w.value ≡ source p (value_in c) o 0
  pub value_is : w.value ≡ final p o

-- Operation o has one settling, by the worker that its word names, if its word is settled. Else it has none
pub record IsBooked (settlings : List Settling) (o : ℕ) (w : OpWord) : Type 0 where
  pub count : settlings_at o settlings ≡ cond (is_settled w.state) 1 0
  pub by_word : (x : Settling) → Contains settlings x → x.op ≡ o → x.by ≡ w.by

-- The record of operation o at place j is of no later attempt than the word, and its value is a version of the source
pub record IsRightRecord (p : Plan) (c : Core) (o : ℕ) (w : OpWord) (j : ℕ) (r : Record) : Type 0 where
  pub attempt : r.attempt ≤ w.attempt
  pub small : r.value ≤ high_of p
  pub version : IsVersion c (origin_at p o j) r.value

module _ (p : Plan) (cap : ℕ) (c : Core) where
  -- Operation o with word w is sound: all of this holds of it
  pub record IsSoundAt (o : ℕ) (w : OpWord) : Type 0 where
    pub range : IsInRange p cap w
    pub held : IsHeld c.claim o w
    pub follows : Follows p (c.recorded o) o w
    pub published : IsPublishedOnce c.published o w
    pub settled : w.state ≡ Settled → IsSettledRight p c o w
    pub aborted : w.state ≡ SettledAborted → IsAbortedRight p c o w
    pub booked : IsBooked c.settlings o w
    -- The last attempt rests on settled values
    pub last :
        has_run w.state ≡ true → w.attempt ≡ cap + 1 → (j : ℕ) (r : Record) → j < places p o → c.recorded o j ≡ Some r
        → IsSettledAs c (origin_at p o j) r.value
    pub records : (j : ℕ) (r : Record) → j < places p o → c.recorded o j ≡ Some r → IsRightRecord p c o w j r

  -- Worker t's claim is sound: the operation is claimed by t, and the places fetched so far have records of this
  -- attempt. At the last attempt these are values of settled sources
  pub record IsSoundClaim (t : ℕ) (h : Held) : Type 0 where
    pub in_range : h.op < op_count p
    pub word_is : c.word h.op ≡ claimed h.attempt t
    pub few : length h.values ≤ places p h.op
    pub records : (j : ℕ) → j < length h.values
        → c.recorded h.op j ≡ Some (record { value = slice_index h.values j; attempt = h.attempt })
    pub last : h.attempt ≡ cap + 1 → (j : ℕ) → j < length h.values
        → IsSettledAs c (origin_at p h.op j) (slice_index h.values j)

  -- The state is sound: so are each operation and each claim, and the decisions are the fold's
  pub record IsSound : Type 0 where
    pub each_op : (o : ℕ) → o < op_count p → IsSoundAt o (c.word o)
    pub each_claim : (t : ℕ) (h : Held) → c.claim t ≡ Some h → IsSoundClaim t h
    -- Decisions are the fold's
    pub decided : (i : ℕ) (d : Bool) → c.decision i ≡ Some d → (i < event_count p) × (verdict p i ≡ d)
    -- Nothing else was shown or settled, and all that was shown are values of the plan
    pub entries : (e : Entry) → Contains c.published e → (e.op < op_count p) × (e.value ≤ high_of p)
    pub settlings : (x : Settling) → Contains c.settlings x → x.op < op_count p
