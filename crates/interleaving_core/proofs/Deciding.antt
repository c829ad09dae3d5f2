-- A decision on an event is the fold's, and leaves all else as it was.
use Rattle.std.proofs.Common.{◌≡◌, ℕ, ◌<◌, Bool, true, false, refl, sym, ap, ◌∙◌, subst, inl, inr, arith, Some}
use Rattle.std.proofs.lemmas.Option.{same_Some, none-some}
use Rattle.morph_base.specs.Limits.{most_attempts}
use Rattle.morph_base.specs.declared.plan.Plan.{Plan}
use Rattle.morph_base.specs.Plans.{IsPlan, event_count, verdict}
use Rattle.morph_base.proofs.KnownLaws.{may_commit, may_abort}
use Rattle.interleaving_core.specs.Core.{Core, IsSettledIn, value_in}
use Rattle.interleaving_core.specs.Steps.{HasGrounds, MayDecide, deciding}
use Rattle.interleaving_core.specs.Soundness.{IsSoundAt, IsSound}
use Rattle.interleaving_core.specs.Growth.{Grows}
use Rattle.interleaving_core.proofs.Basics.{put_else, put_cases}
use Rattle.interleaving_core.proofs.Frames.{at_grows, claim_grows}
use Rattle.interleaving_core.proofs.Sources.{settled_right}

module _ (p : Plan) (cap : ℕ) (valid : IsPlan p) (small_cap : cap < most_attempts) (c : Core) (sound : IsSound p cap c) where
  -- what is decided on grounds is the fold's verdict
  pub grounds_right : (i : ℕ) (committed : Bool) → i < event_count p → HasGrounds p c i committed → verdict p i ≡ committed
  grounds_right i true lt grounds =
      may_commit p (IsSettledIn c) (value_in c) valid (settled_right p cap valid c sound) i lt (λ o within. (grounds.each o within).sources)
      (λ o within. (grounds.each o within).answers)
  grounds_right i false lt grounds =
      may_abort p (IsSettledIn c) (value_in c) valid (settled_right p cap valid c sound) i grounds.culprit lt grounds.inside grounds.fails.sources grounds.fails.fails

  module _ (i : ℕ) (committed : Bool) (may : MayDecide p c i committed) where
    abbrev d : Core
    d = deciding p c i committed

    pub deciding_grows : Grows p c (deciding p c i committed)
    deciding_grows = record {
      attempts = λ o. omega arith;
      settled = λ o is. refl;
      entries = λ e inside. inside;
      records = λ o j e lt inside op_is attempt_is. refl;
      decisions = λ k b is.
          put_else c.decision i (Some committed) k (λ same. none-some b (sym may.goes_from ∙ ap c.decision (sym same) ∙ is)) ∙ is;
      settlings = λ x inside. inside;
    }

    pub deciding_keeps : IsSound p cap (deciding p c i committed)
    deciding_keeps = record {
      each_op = λ o lt.
          let here : IsSoundAt p cap c o (c.word o) = sound.each_op o lt in
          at_grows p c d deciding_grows cap o (c.word o) refl (λ h is op_is. is) here.published here.booked here;
      each_claim = λ t h is. claim_grows p c d deciding_grows cap t h refl refl (sound.each_claim t h is);
      decided = λ k b is.
          elim (put_cases c.decision i (Some committed) k) [
            | inl new ↦
                let same : committed ≡ b = same_Some committed b (sym new.1 ∙ is) in
                (subst (λ n. n < event_count p) (sym new.0) may.in_range, ap (verdict p) new.0 ∙ grounds_right i committed may.in_range may.grounds ∙ same)
            | inr old ↦ sound.decided k b (sym old.1 ∙ is)
          ];
      entries = sound.entries;
      settlings = sound.settlings;
    }
