-- The keys of a batch are those of its plan.
use Rattle.std.proofs.Common.{sym, subst, All}
use Rattle.std.proofs.lemmas.List.Sorted.{All-permutation}
use Rattle.morph_base.specs.declared.key.Layout.{Layout}
use Rattle.morph_base.specs.declared.batch.Batch.{Batch}
use Rattle.morph_base.specs.declared.operation.Op.{Op}
use Rattle.morph_base.specs.declared.plan.Plan.{Plan}
use Rattle.morph_base.specs.Operations.{InLayout, reads}
use Rattle.morph_base.specs.Transactions.{BatchKeysIn, HasKeysIn, transactions_of, by_time}
use Rattle.morph_base.specs.Plans.{IsPlan, IsPlanOf, PlanKeysIn, transactions}
use Rattle.morph_base.proofs.TimeLaws.{by_time-permutes}
use Rattle.morph_base.proofs.PlanLaws.{op_of_all}

pub keys_in_plan : (p : Plan) (layout : Layout) → IsPlan p → All (HasKeysIn layout) (transactions p) → PlanKeysIn p layout
keys_in_plan p layout valid all o lt = op_of_all (λ (op : Op). All (InLayout layout) (reads op)) p valid all o lt

pub keys_of_batch : (b : Batch) (p : Plan) (layout : Layout) → IsPlan p → IsPlanOf b p → BatchKeysIn layout b → PlanKeysIn p layout
keys_of_batch b p layout valid is inside =
    keys_in_plan p layout valid
    (subst (All (HasKeysIn layout)) (sym is) (All-permutation (HasKeysIn layout) (transactions_of b) (by_time (transactions_of b)) (by_time-permutes (transactions_of b)) inside))
