-- What an operation that failed, or ran again, touches at once
use Rattle.std.specs.Prelude.{◌≡◌, ◌≢◌, ℕ, ◌+◌, ◌-◌, ◌≤◌, ◌<◌, ◌==◌, ◌&&◌, ◌⊎◌, Bool, true, false, not, nat_lt, if◌then◌else◌, List, [], ◌++◌, map, filter}
use Rattle.std.specs.List.{range_with_len, flat_map}
use Rattle.morph_base.specs.declared.plan.Plan.{Plan}
use Rattle.morph_base.specs.declared.plan.Origin.{Origin}
use Rattle.morph_base.specs.declared.plan.Origin.TheVariants.{Base, Op as Written}
use Rattle.morph_base.specs.Plans.{op_count, event_at, event_of, origin_at}
use Rattle.interleaving_core.specs.Core.{places}
use Rattle.abort_eager.specs.declared.answers.Target.{Target}
use Rattle.abort_eager.specs.declared.answers.Target.TheVariants.{Spread, RollBack}
use Rattle.abort_eager.specs.declared.cascade.Cascade.{Cascade}

-- The test whether a source is one of the operations from `first` up to `end`
abbrev pub is_among : ℕ → ℕ → Origin → Bool
is_among first end (Base v) = false
is_among first end (Written s) = not (nat_lt s first) && nat_lt s end

module _ (p : Plan) (first end : ℕ) where
  -- Of n places of operation q from j on, those whose source is one of the operations from `first` up to `end`
  unfoldable pub place_targets : ℕ → ℕ → ℕ → List Target
  place_targets q j n =
      map (λ k. RollBack q k) (filter (λ k. is_among first end (origin_at p q k)) (range_with_len j n))

  -- Of n operations from q on, all places whose source is one of the operations from `first` up to `end`
  unfoldable pub reader_targets : ℕ → ℕ → List Target
  reader_targets q n = flat_map (λ t. place_targets t 0 (places p t)) (range_with_len q n)

-- Of n operations from s on, all but o
unfoldable pub sibling_targets : ℕ → ℕ → ℕ → List Target
sibling_targets o s n = map (λ t. Spread t) (filter (λ t. not (t == o)) (range_with_len s n))

module _ (p : Plan) (o : ℕ) (failed : Bool) where
  -- The first of the operations whose readers are touched: of o's event if o failed, else o itself
  abbrev pub first_source : ℕ
  first_source = if failed then (event_at p (event_of p o)).first else o

  -- How many operations have readers that are touched: all of o's event if o failed, else 1
  abbrev pub source_count : ℕ
  source_count = if failed then (event_at p (event_of p o)).count else 1

  -- The end of the operations whose readers are touched: one more than the last one's number
  abbrev pub end_source : ℕ
  end_source = first_source + source_count

  -- If o failed, each other operation of its event gets the failure, by rising number
  abbrev pub spread_targets : List Target
  spread_targets = if failed then sibling_targets o first_source source_count else []

  -- First come the operations that get the failure. Then each place that reads from one of the sources is rolled back,
  -- by rising operation and place
  abbrev pub targets : List Target
  targets = spread_targets ++ reader_targets p first_source end_source 0 (op_count p)

  -- Operation o failed, and s is another operation of its event
  pub record IsSibling (s : ℕ) : Type 0 where
    pub failure : failed ≡ true
    pub in_range : s < op_count p
    pub another : o ≢ s
    pub same_event : event_of p o ≡ event_of p s

  -- Place j of operation q reads from o, or if o failed from another operation of its event
  pub record IsReading (q j : ℕ) : Type 0 where
    pub in_range : q < op_count p
    pub in_places : j < places p q
    pub source : ℕ
    pub origin_is : origin_at p q j ≡ Written source
    pub source_is : (source ≡ o) ⊎ IsSibling source

  -- The target is an operation that gets the failure, or an operation at one of its places
  abbrev pub IsTarget : Target → Type 0
  IsTarget (Spread s) = IsSibling s
  IsTarget (RollBack q j) = (q < op_count p) × (j < places p q)

module _ (p : Plan) (c : Cascade) where
  -- The operations that the cascade still has to spread the failure to
  abbrev pub left_siblings : List Target
  left_siblings = sibling_targets c.op c.sibling (c.end - c.sibling)

  -- The places that the cascade still has to roll back
  abbrev pub left_places : List Target
  left_places =
      place_targets p c.first c.end c.reader c.place (places p c.reader - c.place)
      ++ reader_targets p c.first c.end (c.reader + 1) (op_count p - (c.reader + 1))

  -- The targets that the cascade still has
  abbrev pub targets_left : List Target
  targets_left = left_siblings ++ left_places

  -- The cascade is one of this plan: its sources are those of its operation, and its position is among its targets
  pub record IsCascade : Type 0 where
    pub op_in : c.op < op_count p
    pub first_is : c.first ≡ first_source p c.op c.failed
    pub end_is : c.end ≡ end_source p c.op c.failed
    pub sibling_from : c.first ≤ c.sibling
    pub sibling_in : c.sibling ≤ c.end
    pub reader_in : c.reader < op_count p
