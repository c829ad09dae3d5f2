-- The steps of the machine: when each may be made, the state after it, and where lists of steps lead
use Rattle.std.specs.Prelude.{◌≡◌, ◌≢◌, ℕ, ◌+◌, ◌≤◌, ◌<◌, ◌⊎◌, Bool, true, false, List, [], ◌∷◌, ◌++◌, length, Contains, Option, Some, None, IsSome}
use Rattle.morph_base.specs.Limits.{most_workers}
use Rattle.morph_base.specs.declared.plan.Plan.{Plan}
use Rattle.morph_base.specs.declared.word.OpState.TheVariants.{Blocked, Ready, Claimed, Executed, Spread}
use Rattle.morph_base.specs.declared.word.OpWord.{OpWord}
use Rattle.morph_base.specs.Plans.{event_count, op_count, op_at, event_of, origin_at, InEvent}
use Rattle.morph_base.specs.Clean.{source, outcome}
use Rattle.morph_base.specs.Known.{IsKnown, AreKnown}
use Rattle.morph_base.specs.Words.{is_evaluated}
use Rattle.interleaving_core.specs.declared.entry.Record.{Record}
use Rattle.interleaving_core.specs.declared.entry.Entry.{Entry}
use Rattle.interleaving_core.specs.declared.event.CoreEvent.{CoreEvent}
use Rattle.interleaving_core.specs.declared.event.CoreEvent.TheVariants.{Ready as ReadyStep, Claim, Fetch, Finish, GiveBack, Spread as SpreadStep, RollBack, Decide, Settle}
use Rattle.interleaving_core.specs.Core.{Core, put, blocked, ready, claimed, spread, settled, settled_aborted, finished, is_open, entry_of, fetched, record_value, places, IsSettledIn, value_in, IsSettledAs, IsVersion, start}

-- The number t is a worker's
pub record IsWorker (t : ℕ) : Type 0 where
  pub first : 1 ≤ t
  pub last : t ≤ most_workers

-- The record of operation o at place j has another value than x
pub record IsRecordedOtherwise (c : Core) (o j x : ℕ) : Type 0 where
  pub kept : Record
  pub is : c.recorded o j ≡ Some kept
  pub differs : kept.value ≢ x

-- ---- when a step may be made: its numbers are in range, the state that it goes from is there, and its guard holds

-- A failure of operation o was shown
pub record HasFailed (published : List Entry) (o : ℕ) : Type 0 where
  pub entry : Entry
  pub inside : Contains published entry
  pub op_is : entry.op ≡ o
  pub failed_is : entry.failed ≡ true

module _ (p : Plan) (c : Core) where
  -- Operation o may be made ready
  pub record MayReady (o : ℕ) : Type 0 where
    pub in_range : o < op_count p
    pub goes_from : (c.word o).state ≡ Blocked

  -- Worker t may claim operation o
  pub record MayClaim (o t : ℕ) : Type 0 where
    pub in_range : o < op_count p
    pub worker : IsWorker t
    pub goes_from : (c.word o).state ≡ Ready
    pub free : c.claim t ≡ None

  -- Worker t holds operation o
  pub record IsClaimedBy (o t : ℕ) : Type 0 where
    pub in_range : o < op_count p
    pub worker : IsWorker t
    pub state_is : (c.word o).state ≡ Claimed
    pub by_is : (c.word o).by ≡ t

  -- Worker t may finish operation o
  pub record MayFinish (o t : ℕ) : Type 0 where
    pub goes_from : IsClaimedBy o t
    pub all_fetched : length (fetched (c.claim t)) ≡ places p o

  -- All sources of operation o are settled, and o answers on their values
  pub record AnswersOnSettled (o : ℕ) : Type 0 where
    pub sources : AreKnown p (IsSettledIn c) o
    pub answers : IsSome (outcome p (value_in c) o)

  -- All sources of operation o are settled, and o fails on their values
  pub record FailsOnSettled (o : ℕ) : Type 0 where
    pub sources : AreKnown p (IsSettledIn c) o
    pub fails : outcome p (value_in c) o ≡ None

  -- All operations of event i answer on settled sources
  pub record AllAnswer (i : ℕ) : Type 0 where
    pub each : (o : ℕ) → InEvent p i o → AnswersOnSettled o

  -- One operation of event i fails on settled sources
  pub record OneFails (i : ℕ) : Type 0 where
    pub culprit : ℕ
    pub inside : InEvent p i culprit
    pub fails : FailsOnSettled culprit

  -- A decision on event i has its grounds: to commit, all of its operations answer on settled sources; to abort, one
  -- fails on them
  abbrev pub HasGrounds : ℕ → Bool → Type 0
  HasGrounds i true = AllAnswer i
  HasGrounds i false = OneFails i

  -- Event i may be committed or aborted, as `committed` says
  pub record MayDecide (i : ℕ) (committed : Bool) : Type 0 where
    pub in_range : i < event_count p
    pub goes_from : c.decision i ≡ None
    pub grounds : HasGrounds i committed

  -- Operation o has a record at place j, and it is the value of the source
  abbrev pub RecordAgrees : ℕ → ℕ → Type 0
  RecordAgrees o j = (r : Record) × (c.recorded o j ≡ Some r) × (r.value ≡ source p (value_in c) o j)

  -- Operation o has a record at each place, and each is the value of its source
  abbrev pub RecordsAgree : ℕ → Type 0
  RecordsAgree o = (j : ℕ) → j < places p o → RecordAgrees o j

  -- Operation o may be settled, and its event is committed
  pub record MaySettleCommitted (o : ℕ) : Type 0 where
    pub decided : c.decision (event_of p o) ≡ Some true
    pub goes_from : (c.word o).state ≡ Executed
    pub sources : AreKnown p (IsSettledIn c) o
    pub records : RecordsAgree o

  -- Operation o may be settled, and its event is aborted
  pub record MaySettleAborted (o : ℕ) : Type 0 where
    pub decided : c.decision (event_of p o) ≡ Some false
    pub goes_from : is_open (c.word o).state ≡ true
    pub target : IsKnown (IsSettledIn c) (origin_at p o 0)

  -- Worker t may settle operation o
  pub record MaySettle (o t : ℕ) : Type 0 where
    pub in_range : o < op_count p
    pub worker : IsWorker t
    pub as_decided : MaySettleCommitted o ⊎ MaySettleAborted o

module _ (p : Plan) (cap : ℕ) (c : Core) where
  -- Worker t may fetch the value x for place j of operation o
  pub record MayFetch (o j t x : ℕ) : Type 0 where
    pub goes_from : IsClaimedBy p c o t
    pub in_places : j < places p o
    -- The places before j were fetched, and no other
    pub next : length (fetched (c.claim t)) ≡ j
    pub version : (c.word o).attempt ≤ cap → IsVersion c (origin_at p o j) x
    pub settled_at_last : (c.word o).attempt ≡ cap + 1 → IsSettledAs c (origin_at p o j) x

  -- A failure of the sibling may be spread to operation o
  pub record MaySpread (o sibling : ℕ) : Type 0 where
    pub in_range : o < op_count p
    pub sibling_in_range : sibling < op_count p
    pub another : sibling ≢ o
    pub same_event : event_of p sibling ≡ event_of p o
    pub goes_from : (c.word o).state ≡ Executed
    pub below_cap : (c.word o).attempt < cap
    pub failure : HasFailed c.published sibling

  -- The attempt of operation o is below the cap, and some version of the source at place j differs from the record
  pub record HasOtherVersion (o j : ℕ) : Type 0 where
    pub below_cap : (c.word o).attempt < cap
    pub version : ℕ
    pub is_version : IsVersion c (origin_at p o j) version
    pub differs : IsRecordedOtherwise c o j version

  -- The attempt of operation o is below the cap, its word is spread, and all of its sources are settled
  pub record IsSpreadOnSettled (o : ℕ) : Type 0 where
    pub below_cap : (c.word o).attempt < cap
    pub state_is : (c.word o).state ≡ Spread
    pub sources : AreKnown p (IsSettledIn c) o

  -- Operation o is at the cap, and all of its sources are settled. Its word is spread, or the record at place j differs
  -- from its source
  pub record IsStaleAtCap (o j : ℕ) : Type 0 where
    pub at_cap : (c.word o).attempt ≡ cap
    pub sources : AreKnown p (IsSettledIn c) o
    pub stale : ((c.word o).state ≡ Spread) ⊎ IsRecordedOtherwise c o j (source p (value_in c) o j)

  -- Operation o may be rolled back for place j
  pub record MayRollBack (o j : ℕ) : Type 0 where
    pub in_range : o < op_count p
    pub in_places : j < places p o
    pub goes_from : is_evaluated (c.word o).state ≡ true
    pub cause : HasOtherVersion o j ⊎ (IsSpreadOnSettled o ⊎ IsStaleAtCap o j)

  -- The step may be made
  abbrev pub May : CoreEvent → Type 0
  May (ReadyStep o) = MayReady p c o
  May (Claim o t) = MayClaim p c o t
  May (Fetch o j t x) = MayFetch o j t x
  May (Finish o t) = MayFinish p c o t
  May (GiveBack o t) = IsClaimedBy p c o t
  May (SpreadStep o sibling) = MaySpread o sibling
  May (RollBack o j) = MayRollBack o j
  May (Decide i committed) = MayDecide p c i committed
  May (Settle o t) = MaySettle p c o t

-- ---- the state after a step

module _ (p : Plan) (c : Core) where
  -- The attempt of operation o
  abbrev pub attempt_of : ℕ → ℕ
  attempt_of o = (c.word o).attempt

  -- The state after operation o was made ready
  abbrev pub readied : ℕ → Core
  readied o = record c { word = put c.word o (ready (attempt_of o)) }

  -- The state after worker t claimed operation o
  abbrev pub claiming : ℕ → ℕ → Core
  claiming o t = record c { word = put c.word o (claimed (attempt_of o) t); claim = put c.claim t (Some (record { op = o; attempt = attempt_of o; values = [] })) }

  -- The state after worker t fetched the value x for place j of operation o
  abbrev pub fetching : ℕ → ℕ → ℕ → ℕ → Core
  fetching o j t x =
      record c { recorded = put c.recorded o (put (c.recorded o) j (Some (record { value = x; attempt = attempt_of o }))); claim = put c.claim t (Some (record { op = o; attempt = attempt_of o; values = fetched (c.claim t) ++ x ∷ [] })) }

  -- The word with which operation o is finished, on the values that worker t fetched for it
  abbrev pub end_of : ℕ → ℕ → OpWord
  end_of o t = finished (op_at p o).op (attempt_of o) (fetched (c.claim t))

  -- The state after worker t finished operation o
  abbrev pub finishing : ℕ → ℕ → Core
  finishing o t =
      record c { word = put c.word o (end_of o t); claim = put c.claim t None; published = c.published ++ entry_of o (end_of o t) ∷ [] }

  -- The state after worker t gave operation o back
  abbrev pub giving_back : ℕ → ℕ → Core
  giving_back o t = record c { word = put c.word o (blocked (attempt_of o)); claim = put c.claim t None }

  -- The word of operation o at its next attempt, with the value of its target's record
  abbrev pub spread_of : ℕ → OpWord
  spread_of o = spread (attempt_of o + 1) (record_value (c.recorded o 0))

  -- The state after a failure was spread to operation o
  abbrev pub spreading : ℕ → Core
  spreading o = record c { word = put c.word o (spread_of o); published = c.published ++ entry_of o (spread_of o) ∷ [] }

  -- The state after operation o was rolled back
  abbrev pub rolling_back : ℕ → Core
  rolling_back o = record c { word = put c.word o (blocked (attempt_of o + 1)) }

  -- The state after event i was decided
  abbrev pub deciding : ℕ → Bool → Core
  deciding i committed = record c { decision = put c.decision i (Some committed) }

  -- The state after worker t settled operation o as its event is decided: with its own value, or with that of its
  -- target's source
  abbrev pub settling : ℕ → ℕ → Option Bool → Core
  settling o t None = c
  settling o t (Some true) =
      record c { word = put c.word o (settled (attempt_of o) (value_in c o) t); settlings = c.settlings ++ record { op = o; by = t } ∷ [] }
  settling o t (Some false) =
      record c { word = put c.word o (settled_aborted (attempt_of o) (source p (value_in c) o 0) t); settlings = c.settlings ++ record { op = o; by = t } ∷ [] }

  -- The state after the step
  abbrev pub after : CoreEvent → Core
  after (ReadyStep o) = readied o
  after (Claim o t) = claiming o t
  after (Fetch o j t x) = fetching o j t x
  after (Finish o t) = finishing o t
  after (GiveBack o t) = giving_back o t
  after (SpreadStep o sibling) = spreading o
  after (RollBack o j) = rolling_back o
  after (Decide i committed) = deciding i committed
  after (Settle o t) = settling o t (c.decision (event_of p o))

-- The steps of the list, the last one first, can be made one after another from the start, and lead to state c
abbrev pub Run : Plan → ℕ → List CoreEvent → Core → Type 0
Run p cap [] c = c ≡ start
Run p cap (e ∷ es) c = (before : Core) × Run p cap es before × May p cap before e × (c ≡ after p before e)
