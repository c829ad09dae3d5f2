-- Writes that follow others, and writes that are left out.
use Rattle.std.proofs.Common.{◌≡◌, ℕ, Bool, false, List, ◌++◌, Option, ap, sym, ◌∙◌, append_assoc}
use Rattle.morph_io.specs.Told.{behind, behind_nil, behind_behind}
use Rattle.morph_io.specs.SinkWrites.{AppendsPart}
use Rattle.run_text.specs.Notes.{noted}

-- where they are off nothing is written
pub unwritten : (on : Bool) (told : Option (List ℕ)) (text : List ℕ) → on ≡ false → told ≡ behind told (noted on text)
unwritten on told text off = sym (behind_nil told) ∙ ap (λ (o : Bool). behind told (noted o text)) (sym off)

-- a part of what comes after some bytes
pub part_after : (old new newer : Option (List ℕ)) (front text : List ℕ) → new ≡ behind old front → AppendsPart new text newer → AppendsPart old (front ++ text) newer
part_after old new newer front text appended cut = record {
  done = front ++ cut.done;
  rest = cut.rest;
  missing = cut.missing;
  parts = ap (λ l. front ++ l) cut.parts ∙ sym (append_assoc front cut.done cut.rest);
  appended = cut.appended ∙ ap (λ w. behind w cut.done) appended ∙ behind_behind old front cut.done;
}
