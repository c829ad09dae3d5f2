-- Which operations of a list, or of a plan, read from each one
use Rattle.std.specs.Prelude.{ℕ, ◌==◌, Bool, false, List, length, take, map, filter, replicate, slice_index_or}
use Rattle.std.specs.List.{list_any, range_with_len}
use Rattle.morph_base.specs.declared.limits.TheConstants.{READS}
use Rattle.morph_base.specs.declared.plan.Origin.{Origin}
use Rattle.morph_base.specs.declared.plan.Origin.TheVariants.{Base, Op as Written}
use Rattle.morph_base.specs.declared.plan.PlanOp.{PlanOp}
use Rattle.morph_base.specs.declared.plan.Plan.{Plan}
use Rattle.morph_base.specs.Operations.{reads, no_op}

-- The operation that is read past the end of a plan's operations
abbrev pub no_plan_op : PlanOp
no_plan_op = record { op = no_op; event = 0; origins = replicate READS (Base 0); level = 0 }

-- The test whether a value comes from operation o
abbrev pub is_written_by : ℕ → Origin → Bool
is_written_by o (Base v) = false
is_written_by o (Written s) = s == o

-- The numbers below n, rising
abbrev pub below : ℕ → List ℕ
below n = range_with_len 0 n

-- The sources of the places that an operation uses, its target's first
abbrev pub sources_of : PlanOp → List Origin
sources_of q = take (length (reads q.op)) q.origins

module _ (ops : List PlanOp) where
  -- The test whether operation t reads from operation o
  abbrev pub reads_among : ℕ → ℕ → Bool
  reads_among o t = list_any (is_written_by o) (sources_of (slice_index_or ops t no_plan_op))

  -- For each operation those that read from it, rising, each once
  abbrev pub dependents_in : List (List ℕ)
  dependents_in = map (λ o. filter (reads_among o) (below (length ops))) (below (length ops))

-- For each operation of a plan those that read from it, rising, each once
abbrev pub dependents_of : Plan → List (List ℕ)
dependents_of p = dependents_in p.ops.items
