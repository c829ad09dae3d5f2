-- Answers count the evaluations, up to the greatest number.
use Rattle.std.proofs.Common.{◌≡◌, ◌⊎◌, ℕ, ◌+◌, ◌-◌, ◌≤◌, ◌^◌, ap, inl, inr, arith}
use Rattle.std.proofs.lemmas.Bool.{cases_lt}
use Rattle.morph_base.specs.declared.plan.Plan.{Plan}
use Rattle.op_eval.specs.declared.answers.Evaluation.{Evaluation}
use Rattle.op_eval.specs.declared.answers.Evaluation.TheVariants.{Evaluated, Blocked, Busy, Already}
use Rattle.op_eval.specs.declared.runner.Runner.{Runner}
use Rattle.op_eval.specs.Evaluations.{Tries}
use Rattle.op_eval.specs.Exploring.{total}
use Rattle.op_eval.specs.Running.{one_more}

up_or : (n : ℕ) → (one_more n ≡ n + 1) ⊎ (2 ^ 64 ≤ one_more n + 1)
up_or n = elim (cases_lt n (2 ^ 64 - 1)) [ inl lt ↦ inl (omega arith) | inr past ↦ inr (omega arith) ]

-- one more answer, or as many as there can be
pub tries_total : (p : Plan) (cap o : ℕ) (a b : Runner) (r : Evaluation) → Tries p cap o a b r → (total a.answers + 1 ≤ total b.answers) ⊎ (2 ^ 64 ≤ total b.answers + 1)
tries_total p cap o a b (Evaluated x y) t = let e : total b.answers ≡ one_more a.answers.evaluated + a.answers.blocked + a.answers.busy + a.answers.already = ap total t.counts in elim (up_or a.answers.evaluated) [ inl one ↦ inl (omega arith) | inr full ↦ inr (omega arith) ]
tries_total p cap o a b (Blocked x y) t = let e : total b.answers ≡ a.answers.evaluated + one_more a.answers.blocked + a.answers.busy + a.answers.already = ap total t.counts in elim (up_or a.answers.blocked) [ inl one ↦ inl (omega arith) | inr full ↦ inr (omega arith) ]
tries_total p cap o a b (Busy x) t = let e : total b.answers ≡ a.answers.evaluated + a.answers.blocked + one_more a.answers.busy + a.answers.already = ap total t.counts in elim (up_or a.answers.busy) [ inl one ↦ inl (omega arith) | inr full ↦ inr (omega arith) ]
tries_total p cap o a b (Already x) t = let e : total b.answers ≡ a.answers.evaluated + a.answers.blocked + a.answers.busy + one_more a.answers.already = ap total t.counts in elim (up_or a.answers.already) [ inl one ↦ inl (omega arith) | inr full ↦ inr (omega arith) ]

-- what was full stays full, by a call
pub full_stays : (m n : ℕ) → (m + 1 ≤ n) ⊎ (2 ^ 64 ≤ n + 1) → 2 ^ 64 ≤ m + 1 → 2 ^ 64 ≤ n + 1
full_stays m n more full = elim more [ inl less ↦ omega arith | inr there ↦ there ]
