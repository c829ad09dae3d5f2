-- A worker and a part of a level.
use Rattle.std.proofs.Common.{◌≡◌, ◌≢◌, ◌⊎◌, ℕ, ◌<◌, ◌≤◌, List, length, refl, sym, ap, ◌∙◌, subst, inl, inr, arith}
use Rattle.std.proofs.lemmas.Bool.{cases_lt}
use Rattle.morph_base.specs.declared.plan.Plan.{Plan}
use Rattle.morph_base.specs.Plans.{op_count}
use Rattle.op_words.specs.Counting.{times}
use Rattle.op_eval.specs.declared.runner.Runner.{Runner}
use Rattle.op_eval.specs.Exploring.{Unused, RunRules}
use Rattle.op_eval.specs.Further.{IsFurther}
use Rattle.op_eval.specs.Running.{hand_view}
use Rattle.op_eval.specs.Turns.{IsEnough}
use Rattle.op_eval.proofs.Further.{same_further}
use Rattle.abort_eager.specs.Sweeps.{IsLike}
use Rattle.worker_gate.proofs.Cutting.{part_inside, part_short}
use Rattle.worker_gate.specs.Parts.{part_items}
use Rattle.worker_gate.specs.Sharing.{shared_from}
use Rattle.strata_explorer.specs.Levels.{HasReached}
use Rattle.strata_explorer.specs.Parts.{DoesPart}
use Rattle.strata_explorer.specs.Passes.{FitsPass, Worked}
use Rattle.strata_explorer.specs.Walks.{WalksAll}
use Rattle.strata_explorer.proofs.Between.{worked_from, walks_from}
use Rattle.strata_explorer.proofs.Climbing.{reached_more, saw_stays}
use Rattle.strata_explorer.proofs.Further.{calls_further}
use Rattle.strata_explorer.proofs.Running.{calls_times}

-- the operations of a part are the plan's
pub part_fits : (p : Plan) (ops : List ℕ) (parts part : ℕ) → FitsPass p ops → FitsPass p (part_items ops parts part)
part_fits p ops parts part fits = record {
  few = let short = part_short ops parts part in let few = fits.few in omega (arith, short, few);
  inside = part_inside ops (λ o. o < op_count p) parts part fits.inside;
}

module _ (rules : RunRules) (c : ℕ) (ops : List ℕ) (many number : ℕ) where
  pub took_part : (a b : Runner) → (number ≡ 0) ⊎ (shared_from ≤ many) → Worked rules c ops a b → WalksAll rules c ops a b → IsEnough c (length ops) b → DoesPart rules c ops many number a b
  took_part a b for worked walks enough = record {
    takes_part = λ _. (worked, walks, enough);
    passes_over = λ above few. absurd (elim for [ inl first ↦ omega (arith, above) | inr shared ↦ omega (arith, few) ]);
  }

  pub passed_over : (a : Runner) → 0 < number → many < shared_from → DoesPart rules c ops many number a a
  passed_over a above few = record {
    takes_part = λ for. absurd (elim for [ inl first ↦ omega (arith, above) | inr shared ↦ omega (arith, few) ]);
    passes_over = λ _ _. refl;
  }

  -- the worker took part, or is as it was
  did_or_same : (a b : Runner) → DoesPart rules c ops many number a b → (Worked rules c ops a b × WalksAll rules c ops a b × IsEnough c (length ops) b) ⊎ (b ≡ a)
  did_or_same a b does =
      elim (cases_lt 0 number) [
        | inr first ↦ inl (does.takes_part (inl (omega (arith, first))))
        | inl above ↦
            elim (cases_lt many shared_from) [
              | inl few ↦ inr (does.passes_over above few)
              | inr shared ↦ inl (does.takes_part (inr shared))
            ]
      ]

  -- the same before it looked ahead, which only the first worker does, and only where there are operations
  pub part_from : (a from b : Runner) → Unused c a → IsLike a from → ((0 < number) ⊎ (length ops ≡ 0) → from ≡ a) → DoesPart rules c ops many number from b → DoesPart rules c ops many number a b
  part_from a from b unused like same does =
      elim (cases_lt 0 number) [
        | inl above ↦ subst (λ r. DoesPart rules c ops many number r b) (same (inl above)) does
        | inr first ↦
            elim (cases_lt 0 (length ops)) [
              | inl some ↦ (
                  let none : number ≡ 0 = omega (arith, first) in
                  let did = does.takes_part (inl none) in
                  took_part a b (inl none) (worked_from rules c ops a from b some unused like did.2 did.0) (walks_from rules c ops a from b some unused like did.2 did.1) did.2)
              | inr none ↦ subst (λ r. DoesPart rules c ops many number r b) (same (inr (omega (arith, none)))) does
            ]
      ]

  -- it took numbers from the counter of the part alone
  pub part_unused : (a b : Runner) → DoesPart rules c ops many number a b → (k : ℕ) → k ≢ c → Unused k a → Unused k b
  part_unused a b does k other unused =
      elim (did_or_same a b does) [
        | inl did ↦ calls_times rules k c other did.0.calls a b did.0.only did.0.made ∙ unused
        | inr same ↦ ap (λ r. times k (hand_view r).places) same ∙ unused
      ]

  pub part_further : (a b : Runner) → DoesPart rules c ops many number a b → IsFurther a b
  part_further a b does = elim (did_or_same a b does) [ inl did ↦ calls_further rules did.0.calls a b did.0.made | inr same ↦ same_further a b same ]

  -- a counter that it saw at its end stays there
  pub part_saw : (k most : ℕ) (a b : Runner) → DoesPart rules c ops many number a b → IsEnough k most a → IsEnough k most b
  part_saw k most a b does saw = elim (did_or_same a b does) [ inl did ↦ saw_stays rules k most did.0.calls a b did.0.made saw | inr same ↦ subst (IsEnough k most) (sym same) saw ]

  -- what it reached, if the part is that of one of the counters
  pub part_reached : (list : ℕ → List ℕ) (counters : ℕ) (a b : Runner) → c < counters → list c ≡ ops → DoesPart rules c ops many number a b → HasReached rules.plan counters list a → HasReached rules.plan counters list b
  part_reached list counters a b low same does reached =
      elim (did_or_same a b does) [
        | inl did ↦ reached_more rules list counters counters c ops a b (omega arith) low same reached did.0
        | inr is ↦ subst (HasReached rules.plan counters list) (sym is) reached
      ]
