-- The profile of a batch, and the strategy that is chosen for it
use Rattle.std.specs.Prelude.{◌*◌, ◌&&◌, nat_le, not, if◌then◌else◌, List, count_by, length}
use Rattle.morph_base.specs.declared.plan.Plan.{Plan}
use Rattle.morph_base.specs.declared.strategy.Strategy.{Strategy}
use Rattle.morph_base.specs.declared.strategy.Unit.TheVariants.{Op, Chain}
use Rattle.morph_base.specs.declared.strategy.Explore.TheVariants.{Strata, Steal}
use Rattle.morph_base.specs.declared.strategy.Abort.TheVariants.{Lazy, Eager}
use Rattle.morph_base.specs.Outcomes.{Fate}
use Rattle.morph_base.specs.Plans.{op_count}
use Rattle.morph_base.specs.Graphs.{op_depth}
use Rattle.decision_model.specs.declared.counts.Last.{Last}
use Rattle.decision_model.specs.declared.counts.Profile.{Profile}

-- How many events a batch had, and how many of them aborted, by their fates
abbrev pub last_of : List Fate → Last
last_of fs = record { events = length fs; aborted = count_by (λ f. not f.committed) fs }

-- There was no batch before
abbrev pub no_last : Last
no_last = record { events = 0; aborted = 0 }

-- The counts of a plan: its operations, their levels, and its temporal and parametric dependencies. They come with how
-- the batch before went
abbrev pub profile_of : Plan → Last → Profile
profile_of p last =
    record { ops = op_count p; levels = op_depth p; temporal = p.edges.temporal; parametric = p.edges.parametric; last = last }

-- The strategy for a profile. It takes chains exactly if the temporal dependencies are at least twice the parametric
-- ones and twice their number is at least that of the operations. It takes strata exactly if 32 times the levels are at
-- most the operations. It is lazy exactly if 10 times the events that aborted before are at most the events before
abbrev pub strategy_for : Profile → Strategy
strategy_for p = record {
  unit = if nat_le (2 * p.parametric) p.temporal && nat_le p.ops (2 * p.temporal) then Chain else Op;
  explore = if nat_le (32 * p.levels) p.ops then Strata else Steal;
  abort = if nat_le (10 * p.last.aborted) p.last.events then Lazy else Eager;
}
