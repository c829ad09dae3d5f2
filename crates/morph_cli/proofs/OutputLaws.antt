-- What stands in the outputs, by what was written and where a write failed.
use Rattle.std.proofs.Common.{◌≡◌, inl, inr, ℕ, List, Option, Result, Ok, Err, refl, ap, subst, ◌∙◌}
use Rattle.std.specs.Prelude.{IsErr, OnOk, OnErr}
use Rattle.morph_io.specs.Told.{behind, AppendsPrefix, HasRisen}
use Rattle.morph_io.specs.SinkWrites.{AppendsPart, part_is_prefix}
use Rattle.morph_cli.specs.Outputs.{Outputs, outputs_of, with_both, IsCutIn, WritesBoth}
use Rattle.morph_cli.specs.Status.{EndsWith}
use Rattle.morph_cli.proofs.NoteLaws.{prefix_all}

-- outputs by what stands in each
pub both_is : (told : Outputs) (sink notes : Option (List ℕ)) → told.sink ≡ sink → told.notes ≡ notes → told ≡ outputs_of sink notes
both_is told sink notes sunk noted = ap (λ o. outputs_of o told.notes) sunk ∙ ap (outputs_of sink) noted

-- of the text a prefix stands in any case
pub cut_text : (old : Outputs) (text note : List ℕ) (new : Outputs) → IsCutIn old text note new → AppendsPrefix old.sink text new.sink
cut_text old text note new (inl cut) = part_is_prefix old.sink new.sink text cut.0
cut_text old text note new (inr cut) = prefix_all old.sink new.sink text cut.0

-- the same in other words
pub cut_as : (old old' : Outputs) (text text' note note' : List ℕ) (new : Outputs) → old ≡ old' → text ≡ text' → note ≡ note' → IsCutIn old text note new → IsCutIn old' text' note' new
cut_as old old' text text' note note' new old_is text_is note_is cut =
    subst (λ o. IsCutIn o text' note' new) old_is (subst (λ t. IsCutIn old t note' new) text_is (subst (λ n. IsCutIn old text n new) note_is cut))

pub both_as : (old old' : Outputs) (text text' note note' : List ℕ) (new : Outputs) → old ≡ old' → text ≡ text' → note ≡ note' → new ≡ with_both old text note → new ≡ with_both old' text' note'
both_as old old' text text' note note' new old_is text_is note_is written =
    written ∙ ap (λ o. with_both o text note) old_is ∙ ap (λ t. with_both old' t note) text_is ∙ ap (with_both old' text') note_is

-- the text was written, and of the note this came
pub tells_behind : {T E : Type 0} (r : Result T E) (sink sink' notes notes' : Option (List ℕ)) (text note : List ℕ) → sink' ≡ behind sink text →
    OnOk r (notes' ≡ behind notes note) → OnErr r (AppendsPart notes note notes') → WritesBoth r (outputs_of sink notes) text note (outputs_of sink' notes')
tells_behind (Ok done) sink sink' notes notes' text note written noted cut = both_is (outputs_of sink' notes') (behind sink text) (behind notes note) written noted
tells_behind (Err fault) sink sink' notes notes' text note written noted cut = inr (written, cut)

-- a write of the text failed
pub tells_cut : {T E : Type 0} (r : Result T E) (sink sink' notes : Option (List ℕ)) (text note : List ℕ) → IsErr r →
    AppendsPart sink text sink' → WritesBoth r (outputs_of sink notes) text note (outputs_of sink' notes)
tells_cut (Ok done) sink sink' notes text note failed cut = absurd (cc)
tells_cut (Err fault) sink sink' notes text note failed cut = inl (cut, refl)

-- a last line was written, or a part of it
pub ends_with : {T E : Type 0} (r : Result T E) (line : List ℕ) (old new : Option (List ℕ)) (faults faults' : ℕ) → OnOk r (new ≡ behind old line) → OnOk r (faults' ≡ faults) →
    OnErr r (AppendsPart old line new) → OnErr r (HasRisen faults faults') → EndsWith line old new faults faults'
ends_with (Ok done) line old new faults faults' all steady part risen = inl (all, steady)
ends_with (Err fault) line old new faults faults' all steady part risen = inr (part, risen)
