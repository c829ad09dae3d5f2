-- The graph of a plan: levels, level lists and the counts of dependencies
use Rattle.std.specs.Prelude.{◌≡◌, ℕ, ◌+◌, ◌-◌, ◌*◌, ◌/◌, ◌<◌, Bool, true, false, ◌==◌, List, [], ◌∷◌, drop, map, filter, max, count_by, sum_by}
use Rattle.std.specs.List.{flat_map, range_with_len}
use Rattle.morph_base.specs.declared.plan.Origin.{Origin}
use Rattle.morph_base.specs.declared.plan.Origin.TheVariants.{Base, Op as Written}
use Rattle.morph_base.specs.declared.plan.Plan.{Plan}
pub use Rattle.morph_base.specs.Readers.{is_written_by, below}
use Rattle.morph_base.specs.Readers.{reads_among}
use Rattle.morph_base.specs.Plans.{event_count, op_count, event_at, op_at, event_of, origin_at, origins_of, IsPlan}

-- The greatest of some numbers, or 0 if there is none
abbrev pub greatest : List ℕ → ℕ
greatest [] = 0
greatest (n ∷ ns) = max n (greatest ns)

-- The test whether a value comes from an operation of the plan
abbrev pub is_written : Origin → Bool
is_written (Base v) = false
is_written (Written s) = true

-- The level of a source, if operation s has level `level s`. A base has level 0
abbrev pub level_of : (ℕ → ℕ) → Origin → ℕ
level_of level (Base v) = 0
level_of level (Written s) = level s

module _ (p : Plan) where
  -- The level of a source: that of its operation, or 0 for a base
  abbrev pub op_level : Origin → ℕ
  op_level = level_of (λ s. (op_at p s).level)

  -- The level of a source's event, or 0 for a base
  abbrev pub event_level : Origin → ℕ
  event_level = level_of (λ s. (event_at p (event_of p s)).level)

  -- The operations of event i
  abbrev pub ops_in : ℕ → List ℕ
  ops_in i = range_with_len (event_at p i).first (event_at p i).count

  -- The sources of all places of event i's operations
  abbrev pub event_origins : ℕ → List Origin
  event_origins i = flat_map (origins_of p) (ops_in i)

  -- The test whether operation t reads from operation o
  abbrev pub reads_from : ℕ → ℕ → Bool
  reads_from o t = reads_among p.ops.items o t

  -- The number of levels of operations
  abbrev pub op_depth : ℕ
  op_depth = greatest (map (λ q. q.level) p.ops.items)

  -- The number of levels of events
  abbrev pub event_depth : ℕ
  event_depth = greatest (map (λ e. e.level) p.events.items)

  -- The plan's graph is right. A level is one more than the greatest level of the sources. The level lists have all of
  -- each level, rising, each once. The counts are those of written targets, of written parameters, and of pairs of
  -- operations of one event
  pub record IsGraph : Type 0 where
    -- A level is one more than the greatest level of the sources
    pub op_level_is : (o : ℕ) → o < op_count p → (op_at p o).level ≡ 1 + greatest (map op_level (origins_of p o))
    pub event_level_is : (i : ℕ) → i < event_count p
        → (event_at p i).level ≡ 1 + greatest (map event_level (event_origins i))
    -- Each level, from 1 on, has a list of all that are on it, rising
    pub op_levels_are : map (λ l. l.items) p.op_levels.items ≡ map (λ l. filter (λ o. (op_at p o).level == l + 1) (below (op_count p))) (below op_depth)
    pub event_levels_are : map (λ l. l.items) p.event_levels.items ≡ map (λ l. filter (λ i. (event_at p i).level == l + 1) (below (event_count p))) (below event_depth)
    -- The counts are those of the targets that are written, of the parameters that are written, and of the pairs of
    -- operations of one event
    pub temporal_is : p.edges.temporal ≡ count_by (λ o. is_written (origin_at p o 0)) (below (op_count p))
    pub parametric_is : p.edges.parametric ≡ sum_by (λ o. count_by is_written (drop 1 (origins_of p o))) (below (op_count p))
    pub logical_is : p.edges.logical ≡ sum_by (λ e. e.count * (e.count - 1) / 2) p.events.items

-- The plan is valid, and so is its graph
pub record IsValidPlan (p : Plan) : Type 0 where
  pub plan : IsPlan p
  pub graph : IsGraph p
