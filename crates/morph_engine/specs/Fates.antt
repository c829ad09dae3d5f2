-- What became of each event of a plan, as it was settled
use Rattle.std.specs.Prelude.{ℕ, List, false, map, take, drop, slice_index_or}
use Rattle.morph_base.specs.declared.plan.Plan.{Plan}
use Rattle.morph_base.specs.declared.plan.Settled.{Settled}
use Rattle.morph_base.specs.Plans.{event_at, event_count}
use Rattle.morph_base.specs.Graphs.{below}
use Rattle.morph_base.specs.Outcomes.{Fate}

-- The fate of event i: its time, its verdict, and the values of its operations
abbrev pub settled_fate : Plan → Settled → ℕ → Fate
settled_fate p r i = record {
  ts = (event_at p i).ts;
  committed = slice_index_or r.committed.items i false;
  values = take (event_at p i).count (drop (event_at p i).first r.values.items);
}

-- The fates of all events, in the plan's order
abbrev pub settled_fates : Plan → Settled → List Fate
settled_fates p r = map (settled_fate p r) (below (event_count p))
