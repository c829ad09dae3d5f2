-- A journal of steps, replayed on the machine
use Rattle.std.specs.Prelude.{ℕ, ◌-◌, ◌<◌, List, take}
use Rattle.morph_base.specs.declared.plan.Plan.{Plan}
use Rattle.morph_base.specs.Plans.{op_count}
use Rattle.interleaving_core.specs.declared.event.CoreEvent.{CoreEvent}
use Rattle.interleaving_core.specs.Core.{Core, IsSettledIn, start}
use Rattle.interleaving_core.specs.Orders.{Leads}

-- The machine takes the whole journal, one event after another from the start
pub record IsReplayed (p : Plan) (cap : ℕ) (journal : List CoreEvent) : Type 0 where
  pub state : Core
  pub leads : Leads p cap start journal state

-- The machine takes the first `at - 1` events, and not the first `at`
pub record IsBrokenAt (p : Plan) (cap : ℕ) (journal : List CoreEvent) (at : ℕ) : Type 0 where
  pub taken : IsReplayed p cap (take (at - 1) journal)
  pub refused : IsReplayed p cap (take at journal) → ⊥

-- All operations of the plan are settled
abbrev pub AllSettled : Plan → Core → Type 0
AllSettled p c = (o : ℕ) → o < op_count p → IsSettledIn c o
