-- What a hand noted is the present state's.
use Rattle.std.proofs.Common.{◌≡◌, ℕ, ap, ◌∙◌, subst}
use Rattle.morph_base.specs.declared.plan.Plan.{Plan}
use Rattle.morph_base.specs.declared.plan.Origin.{Origin}
use Rattle.morph_base.specs.declared.plan.Origin.TheVariants.{Base, Op as Written}
use Rattle.morph_base.specs.declared.word.OpWord.{OpWord}
use Rattle.morph_base.specs.Words.{is_settled}
use Rattle.interleaving_core.specs.Core.{Core, IsSettledAs}
use Rattle.op_words.specs.declared.trail.View.{View}
use Rattle.op_words.specs.Evidence.{AreNoted}
use Rattle.op_words.specs.Views.{IsSettledSeen, IsSourceSeen}

module _ {p : Plan} {c : Core} {v : View} (noted : AreNoted p c v) where
  -- a settled word that was noted is the present one
  pub noted_present : {o : ℕ} → (seen : IsSettledSeen v o) → c.word o ≡ seen.note.word
  noted_present {o} seen = subst (λ n. c.word n ≡ seen.note.word) seen.op_is ((noted.notes seen.note seen.inside).settled seen.settled)

  -- so is the value of a source that was seen settled
  pub noted_source : (q : Origin) (x : ℕ) → IsSourceSeen v q x → IsSettledAs c q x
  noted_source (Base b) x is = (tt, is)
  noted_source (Written t) x is =
      let now = noted_present is.seen in
      (ap (λ (w : OpWord). is_settled w.state) now ∙ is.seen.settled, ap (λ (w : OpWord). w.value) now ∙ is.value_is)
