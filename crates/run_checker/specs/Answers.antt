-- What each answer of the checker says
use Rattle.std.specs.Prelude.{◌≡◌, ◌≢◌, ℕ, ◌<◌, List, slice_index}
use Rattle.morph_base.specs.declared.plan.Plan.{Plan}
use Rattle.morph_base.specs.Plans.{op_count, final}
use Rattle.interleaving_core.specs.declared.event.CoreEvent.{CoreEvent}
use Rattle.interleaving_core.specs.Core.{Core, start, IsSettledIn, value_in}
use Rattle.interleaving_core.specs.Orders.{Leads}
use Rattle.run_checker.specs.declared.checked.Checked.{Checked}
use Rattle.run_checker.specs.declared.checked.Checked.TheVariants.{Yes, Broken, Unsettled, Differs}
use Rattle.run_checker.specs.Replay.{IsBrokenAt, AllSettled}

-- Operation op is the least one that is not settled in the state
pub record IsFirstUnsettled (p : Plan) (c : Core) (op : ℕ) : Type 0 where
  pub inside : op < op_count p
  pub unsettled : IsSettledIn c op → ⊥
  pub below : (o : ℕ) → o < op → IsSettledIn c o

-- Operation op is the least one whose value in the state differs from the run's. The two values are `journal` and
-- `run`
pub record IsFirstUnlike (p : Plan) (c : Core) (values : List ℕ) (op journal run : ℕ) : Type 0 where
  pub inside : op < op_count p
  pub journal_is : journal ≡ value_in c op
  pub run_is : run ≡ slice_index values op
  pub unlike : journal ≢ run
  pub below : (o : ℕ) → o < op → value_in c o ≡ slice_index values o

-- Each operation has the run's value in the state
abbrev pub AllLike : Plan → Core → List ℕ → Type 0
AllLike p c values = (o : ℕ) → o < op_count p → value_in c o ≡ slice_index values o

-- The machine takes the whole journal, and then op is the least operation that is not settled
pub record IsUnsettledAt (p : Plan) (cap : ℕ) (journal : List CoreEvent) (op : ℕ) : Type 0 where
  pub state : Core
  pub leads : Leads p cap start journal state
  pub first : IsFirstUnsettled p state op

-- An operation, and its values by the journal and by the run
pub record Difference : Type 0 where
  pub op : ℕ
  pub journal : ℕ
  pub run : ℕ

-- The machine takes the whole journal, which settles all operations, and the least one whose settled value differs from
-- the run's is that of d
pub record IsUnlikeAt (p : Plan) (cap : ℕ) (journal : List CoreEvent) (values : List ℕ) (d : Difference) : Type 0 where
  pub state : Core
  pub leads : Leads p cap start journal state
  pub settled : AllSettled p state
  pub first : IsFirstUnlike p state values d.op d.journal d.run

-- The machine takes the whole journal, which settles all operations with the run's values
pub record IsBorneOut (p : Plan) (cap : ℕ) (journal : List CoreEvent) (values : List ℕ) : Type 0 where
  pub state : Core
  pub leads : Leads p cap start journal state
  pub settled : AllSettled p state
  pub same : AllLike p state values

-- The answer is right for the journal and the run's values. At most one answer is
abbrev pub Answers : Plan → (cap : ℕ) → (journal : List CoreEvent) → (values : List ℕ) → Checked → Type 0
Answers p cap journal values (Broken at) = IsBrokenAt p cap journal at
Answers p cap journal values (Unsettled op) = IsUnsettledAt p cap journal op
Answers p cap journal values (Differs op by_journal by_run) =
    IsUnlikeAt p cap journal values (record { op = op; journal = by_journal; run = by_run })
Answers p cap journal values Yes = IsBorneOut p cap journal values

-- The machine takes the whole journal, and each operation that it settles has the fold's value
pub record SettlesFold (p : Plan) (cap : ℕ) (journal : List CoreEvent) : Type 0 where
  pub state : Core
  pub leads : Leads p cap start journal state
  pub values : (o : ℕ) → o < op_count p → IsSettledIn state o → value_in state o ≡ final p o

-- The machine takes the whole journal, which settles all operations, each with the fold's value
pub record SettlesWholeFold (p : Plan) (cap : ℕ) (journal : List CoreEvent) : Type 0 where
  pub state : Core
  pub leads : Leads p cap start journal state
  pub settled : AllSettled p state
  pub values : (o : ℕ) → o < op_count p → value_in state o ≡ final p o

-- The values, one for each operation, are those of the fold
pub record AreFold (p : Plan) (values : List ℕ) : Type 0 where
  pub each : (o : ℕ) → o < op_count p → slice_index values o ≡ final p o
