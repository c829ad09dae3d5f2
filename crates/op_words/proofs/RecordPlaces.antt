-- The records of an operation lie before the decisions, and apart from those of other operations.
use Rattle.std.proofs.Common.{◌≡◌, ℕ, ◌*◌, ◌<◌, ◌≤◌, length, ap, le_refl, subst, sym, inl, inr, arith}
use Rattle.std.specs.List.{sum_by}
use Rattle.std.proofs.lemmas.Bool.{cases_lt}
use Rattle.std.proofs.lemmas.List.{take_all}
use Rattle.std.proofs.lemmas.List.Elements.{All-from_get_or}
use Rattle.std.proofs.lemmas.List.Sums.{sum_by-le}
use Rattle.morph_base.specs.declared.limits.TheConstants.{READS}
use Rattle.morph_base.specs.declared.plan.Plan.{Plan}
use Rattle.morph_base.specs.declared.plan.PlanOp.{PlanOp}
use Rattle.morph_base.specs.Operations.{reads}
use Rattle.morph_base.specs.Plans.{IsPlan, no_plan_op, op_count}
use Rattle.morph_base.specs.OpLists.{places_before}
use Rattle.morph_base.proofs.OpApartLaws.{places_apart}
use Rattle.interleaving_core.specs.Core.{places}
use Rattle.op_words.specs.Layout.{record_index, decision_base}
use Rattle.op_words.proofs.Storing.{places_few}

pub record_before : (p : Plan) (o j : ℕ) → o < op_count p → j < places p o → record_index p o j < decision_base p
record_before p o j lt few = let room = places_apart p.ops.items o (op_count p) lt (le_refl (op_count p)) in omega (arith, room, few)

-- one place for each record
pub one_record : (p : Plan) (o j q k : ℕ) → o < op_count p → j < places p o → q < op_count p → k < places p q → record_index p o j ≡ record_index p q k → (o ≡ q) × (j ≡ k)
one_record p o j q k lt few below small same =
    elim (cases_lt o q) [
      | inl less ↦ absurd (let room = places_apart p.ops.items o q less (omega (arith, below)) in omega (arith, room, few, same))
      | inr most ↦
          elim (cases_lt q o) [
            | inl less ↦ absurd (let room = places_apart p.ops.items q o less (omega (arith, lt)) in omega (arith, room, small, same))
            | inr least ↦
                let one : o ≡ q = omega (arith, most, least) in
                let here : record_index p o j ≡ record_index p o k = subst (λ (n : ℕ). record_index p o j ≡ record_index p n k) (sym one) same in
                (one, omega (arith, here))
          ]
    ]

-- all operations together have few records
pub all_few : (p : Plan) → IsPlan p → places_before p.ops.items (op_count p) ≤ op_count p * READS
all_few p valid =
    let size = λ (q : PlanOp). length (reads q.op) in
    let whole : places_before p.ops.items (op_count p) ≡ sum_by size p.ops.items = ap (sum_by size) (take_all (op_count p) p.ops.items (le_refl (op_count p))) in
    let few : sum_by size p.ops.items ≤ op_count p * READS =
    sum_by-le size READS p.ops.items (All-from_get_or (λ (q : PlanOp). size q ≤ READS) p.ops.items no_plan_op (λ o lt. places_few p o valid lt)) in
    omega (arith, whole, few)
