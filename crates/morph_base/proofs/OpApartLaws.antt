-- The places of different operations are apart, for records of a size of their own.
use Rattle.std.proofs.Common.{◌≡◌, ℕ, ◌+◌, ◌<◌, ◌≤◌, List, length, get_or, take, ap, arith}
use Rattle.std.specs.List.{sum_by}
use Rattle.std.proofs.lemmas.List.{take-take}
use Rattle.std.proofs.lemmas.List.Sums.{sum_by_more, sum_by-take-le}
use Rattle.morph_base.specs.declared.plan.PlanOp.{PlanOp}
use Rattle.morph_base.specs.Operations.{reads}
use Rattle.morph_base.specs.Plans.{no_plan_op}
use Rattle.morph_base.specs.OpLists.{places_before}

pub places_apart : (qs : List PlanOp) (o q : ℕ) → o < q → q ≤ length qs → places_before qs o + length (reads (get_or qs o no_plan_op).op) ≤ places_before qs q
places_apart qs o q before inside =
    let size = λ (x : PlanOp). length (reads x.op) in
    let one : sum_by size (take (o + 1) qs) ≡ sum_by size (take o qs) + size (get_or qs o no_plan_op) = sum_by_more size qs o no_plan_op (omega arith) in
    let front : sum_by size (take (o + 1) (take q qs)) ≡ sum_by size (take (o + 1) qs) = ap (sum_by size) (take-take (o + 1) q qs (omega arith)) in
    let part : sum_by size (take (o + 1) (take q qs)) ≤ sum_by size (take q qs) = sum_by-take-le size (take q qs) (o + 1) in
    omega (arith, one, front, part)
