-- Cascades that are run to their end, with notes of what was touched.
use Rattle.std.proofs.Common.{◌≡◌, ℕ, Bool, Option, Some, None, List, [], ◌∷◌, refl, sym, ap, ◌∙◌, subst}
use Rattle.morph_base.specs.declared.plan.Plan.{Plan}
use Rattle.op_words.specs.declared.board.Hand.{Hand}
use Rattle.op_words.specs.Hands.{view_of}
use Rattle.op_eval.specs.declared.answers.Evaluation.{Evaluation}
use Rattle.op_eval.specs.declared.runner.Runner.{Runner}
use Rattle.op_eval.specs.Running.{hand_view}
use Rattle.abort_eager.specs.declared.answers.Target.{Target}
use Rattle.abort_eager.specs.declared.answers.Touched.{Touched}
use Rattle.abort_eager.specs.declared.cascade.Cascade.{Cascade}
use Rattle.op_eval.specs.Exploring.{RunRules}
use Rattle.abort_eager.specs.Sweeps.{cascade_for, IsLike, SweepsFor, Attempts, SweepsAll, SweepsAllFor, AttemptsNoting}
use Rattle.abort_eager.specs.Targets.{targets, targets_left}
use Rattle.abort_eager.specs.Touching.{Touching, NextDoes}

module _ (p : Plan) (cap : ℕ) (leaves : Runner → Runner → Type 0) where
  -- the first target that was left, and then the others
  pub noted_more : (c d : Cascade) (a n u : Runner) (h : Hand) (t : Touched) → NextDoes p cap c d (hand_view a) (view_of h) (Some t) → IsLike (record a { hand = h }) n → leaves (record a { hand = h }) n
      → SweepsAll p cap leaves (targets_left p d) n u → SweepsAll p cap leaves (targets_left p c) a u
  noted_more c d a n u h t next like left rest =
      subst (λ gs. SweepsAll p cap leaves gs a u) (sym next.left)
      (record a { hand = h }, n, t, record { touches = next.touches; answers = refl; kept = refl }, like, left, rest)

  pub noted_end : (c d : Cascade) (a : Runner) (h : Hand) → NextDoes p cap c d (hand_view a) (view_of h) None → h ≡ a.hand → SweepsAll p cap leaves (targets_left p c) a (record a { hand = h })
  noted_end c d a h next still = subst (λ gs. SweepsAll p cap leaves gs a (record a { hand = h })) (sym next.before) (ap (λ g. record a { hand = g }) still)

  -- what contracts see of the runner does not depend on the notes
  all_touched : (gs : List Target) (a b : Runner) → SweepsAll p cap leaves gs a b → Touching p cap gs (hand_view a) (hand_view b) × (b.answers ≡ a.answers) × (b.kept ≡ a.kept)
  all_touched [] a b same = (ap (λ r. hand_view r) same, ap (λ r. r.answers) same, ap (λ r. r.kept) same)
  all_touched (g ∷ gs) a b all =
      let rest = all_touched gs all.1 b all.6 in (
        (hand_view all.0, all.2, all.3.touches, subst (λ v. Touching p cap gs v (hand_view b)) all.4.view rest.0),
        rest.1 ∙ all.4.answers ∙ all.3.answers,
        rest.2 ∙ all.4.kept ∙ all.3.kept,
      )

pub attempts_of : (rules : RunRules) (leaves : Runner → Runner → Type 0) (o : ℕ) (a b : Runner) (r : Evaluation) → AttemptsNoting rules leaves o a b r → Attempts rules o a b r
attempts_of rules leaves o a b r attempts = (attempts.0, attempts.1, swept (cascade_for rules.abort r) attempts.2)
  where
    swept : (f : Option Bool) → SweepsAllFor rules.plan rules.cap leaves o f attempts.0 b → SweepsFor rules.plan rules.cap o f attempts.0 b
    swept None same = same
    swept (Some failed) all =
        let is = all_touched rules.plan rules.cap leaves (targets rules.plan o failed) attempts.0 b all in record { touching = is.0; answers = is.1; kept = is.2 }
