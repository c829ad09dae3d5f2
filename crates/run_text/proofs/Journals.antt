-- The lines of a journal, one after another.
use Rattle.std.proofs.Common.{◌≡◌, ◌⊎◌, inl, inr, ℕ, false, List, [], ◌∷◌, ◌++◌, Option, ap, sym, ◌∙◌, refl, append_assoc}
use Rattle.std.proofs.lemmas.Bool.{cond-false}
use Rattle.std.specs.List.{flat_map}
use Rattle.interleaving_core.specs.declared.event.CoreEvent.{CoreEvent}
use Rattle.morph_base.specs.declared.plan.Plan.{Plan}
use Rattle.morph_io.specs.Told.{behind, behind_nil}
use Rattle.run_checker.specs.Lines.{line_of, text_of}
use Rattle.run_text.specs.declared.choices.Check.{Check}
use Rattle.run_text.specs.declared.choices.Check.TheVariants.{Off, On}
use Rattle.run_text.specs.Checks.{is_checked}
use Rattle.run_text.specs.Notes.{check_note, check_notes, is_cut, step_notes}

-- the line of a step, with its LF
abbrev pub ended_line : CoreEvent → List ℕ
ended_line e = line_of e ++ 10 ∷ []

pub text_lines : (es : List CoreEvent) → flat_map ended_line es ≡ text_of es
unfolding text_of
text_lines [] = refl
text_lines (e ∷ es) = ap (λ l. ended_line e ++ l) (text_lines es) ∙ append_assoc (line_of e) (10 ∷ []) (text_of es)

-- where journals are not told there are no lines
pub unasked : (check : Check) (journal : List CoreEvent) → (check ≡ Off) ⊎ (check ≡ On) → step_notes check journal ≡ []
unasked check journal (inl off) = ap (λ k. step_notes k journal) off
unasked check journal (inr on) = ap (λ k. step_notes k journal) on

-- and where they are not checked there is nothing
pub unchecked : (check : Check) (number : ℕ) (p : Plan) (journal : List CoreEvent) (told : Option (List ℕ)) → is_checked check ≡ false → told ≡ behind told (check_notes check number p journal)
unchecked check number p journal told off =
    sym (behind_nil told) ∙ ap (behind told) (sym (cond-false (is_checked check) (step_notes check journal ++ check_note number (is_cut p journal)) [] off))
