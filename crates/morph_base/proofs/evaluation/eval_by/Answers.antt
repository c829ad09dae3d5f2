use Rattle.std.proofs.Common.{ℕ, ◌+◌, ◌-◌, ◌*◌, ◌≤◌, List, length, take, drop, All, sum, arith, length-take, length-drop}
use Rattle.std.proofs.lemmas.List.Sums.{sum_by-le}
use Rattle.std.proofs.Math.Nat.{mul-le-mul_right}
use Rattle.std.proofs.lemmas.List.Elements.{All-take, All-drop}
use Rattle.morph_base.specs.declared.limits.TheConstants.{MAX, PARAMS}
use Rattle.morph_base.proofs.evaluation.eval_by.Goals as goal

-- as in morph_base's `eval`
sum_of_tail : (high n : ℕ) (xs : List ℕ) → All (λ x. x ≤ high) xs → length xs ≤ n + 1 →
    sum (take (length xs - 1) (drop 1 xs)) ≤ n * high
sum_of_tail high n xs small few =
    let m : ℕ = length xs - 1 in
    let tail : List ℕ = take m (drop 1 xs) in
    let within : sum tail ≤ length tail * high = sum_by-le (λ x. x) high tail
    (All-take (λ x. x ≤ high) m (drop 1 xs) (All-drop (λ x. x ≤ high) 1 xs small)) in
    let short : length tail ≤ n = simp (length-take, length-drop) (omega arith) in
    omega (arith, mul-le-mul_right {m = length tail} {n = n} high short)

pub total-requires : goal.total-requires
total-requires c = let within = sum_of_tail MAX PARAMS c.args.xs.now c.requires.values (omega arith) in omega arith
