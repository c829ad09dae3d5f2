-- What a `CoreState` stands for, and which of them are states of a plan
use Rattle.std.specs.Prelude.{◌≡◌, ◌≢◌, ℕ, ◌+◌, ◌*◌, ◌≤◌, ◌<◌, if◌then◌else◌, nat_lt, length, take, Option, Some, None, slice_index_or}
use Rattle.morph_base.specs.declared.limits.TheConstants.{READS}
use Rattle.morph_base.specs.Limits.{most_attempts, most_workers}
use Rattle.morph_base.specs.declared.plan.Origin.{Origin}
use Rattle.morph_base.specs.declared.plan.Origin.TheVariants.{Base, Op as Written}
use Rattle.morph_base.specs.declared.plan.Plan.{Plan}
use Rattle.morph_base.specs.Plans.{event_count, op_count}
use Rattle.interleaving_core.specs.declared.claim.Claim.{Claim}
use Rattle.interleaving_core.specs.declared.entry.Held.{Held}
use Rattle.interleaving_core.specs.declared.state.CoreState.{CoreState}
use Rattle.morph_base.specs.Clean.{from}
use Rattle.morph_base.specs.Known.{IsKnown}
use Rattle.interleaving_core.specs.Core.{Core, blocked, IsSettledIn, value_in, IsVersion}
use Rattle.interleaving_core.specs.Soundness.{IsSound}

-- What a stored claim stands for: the operation, its attempt and the values fetched so far
abbrev pub held_of : Option Claim → Option Held
held_of None = None
held_of (Some k) = Some (record { op = k.op; attempt = k.attempt; values = take k.count k.values })

-- The state of the machine that a `CoreState` stands for
abbrev pub core_of : CoreState → Core
core_of s =
    record {
      word = λ o. slice_index_or s.words.items o (blocked 1);
      recorded = λ o j. if nat_lt j READS then slice_index_or s.records.items (o * READS + j) None else None;
      claim = λ t. held_of (slice_index_or s.claims.items t None);
      decision = λ i. slice_index_or s.decisions.items i None;
      published = s.published.entries.items;
      settlings = s.settlings.items;
    }

-- The cap, which is one less than the most attempts of an operation
abbrev pub cap_of : CoreState → ℕ
cap_of s = s.cap

-- How many words the state has
abbrev pub word_count : CoreState → ℕ
word_count s = length s.words.items

-- How many operations the state keeps entries of
abbrev pub published_count : CoreState → ℕ
published_count s = length s.published.ends.items

-- How many events the state keeps the decisions of
abbrev pub decision_count : CoreState → ℕ
decision_count s = length s.decisions.items

-- The state holds as much as the plan needs, and has room for what steps add
pub record HasSizes (p : Plan) (s : CoreState) : Type 0 where
  pub words : length s.words.items ≡ op_count p
  pub records : length s.records.items ≡ op_count p * READS
  pub claims : length s.claims.items ≡ most_workers + 1
  pub decisions : length s.decisions.items ≡ event_count p
  pub entries : length s.published.entries.items + s.published.entries.room ≡ op_count p * (s.cap + 1)
  pub published : published_count s ≡ op_count p
  pub settlings : length s.settlings.items + s.settlings.room ≡ op_count p

-- A claim has a value for each place that was fetched
pub record HasClaimedValues (k : Claim) : Type 0 where
  pub count : k.count ≤ READS
  pub len : length k.values ≡ READS

-- The state is one of this plan: one that `new` and steps lead to
pub record IsStateOf (p : Plan) (s : CoreState) : Type 0 where
  pub small_cap : s.cap < most_attempts
  pub sizes : HasSizes p s
  pub claims : (t : ℕ) (k : Claim) → slice_index_or s.claims.items t None ≡ Some k → HasClaimedValues k
  pub sound : IsSound p s.cap (core_of s)

-- Each claim has a value for each place that was fetched
abbrev pub AllFit : CoreState → Type 0
AllFit s = (t : ℕ) (k : Claim) → slice_index_or s.claims.items t None ≡ Some k → HasClaimedValues k

-- A change of the state touched neither its cap nor the sizes of its lists, or their items and room together
pub record IsSameShape (old new : CoreState) : Type 0 where
  pub cap : new.cap ≡ old.cap
  pub words : length new.words.items ≡ length old.words.items
  pub records : length new.records.items ≡ length old.records.items
  pub claims : length new.claims.items ≡ length old.claims.items
  pub decisions : length new.decisions.items ≡ length old.decisions.items
  pub entries : length new.published.entries.items + new.published.entries.room
      ≡ length old.published.entries.items + old.published.entries.room
  pub published : published_count new ≡ published_count old
  pub settlings : length new.settlings.items + new.settlings.room ≡ length old.settlings.items + old.settlings.room
  pub fit : AllFit old → AllFit new

-- The source is a base or one of the first n operations
abbrev pub IsInside : ℕ → Origin → Type 0
IsInside n (Base v) = Unit {0}
IsInside n (Written s) = s < n

module _ (c : Core) (origin : Origin) (x : ℕ) where
  -- The source is settled with another value than x
  pub record IsSettledOtherwise : Type 0 where
    pub known : IsKnown (IsSettledIn c) origin
    pub differs : from (value_in c) origin ≢ x

  -- The source has another version than x
  pub record HasVersionBesides : Type 0 where
    pub version : ℕ
    pub is_version : IsVersion c origin version
    pub differs : version ≢ x
