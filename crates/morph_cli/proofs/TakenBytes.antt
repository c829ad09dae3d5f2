-- The bytes that a run has taken, and the batches that are closed within them.
use Rattle.std.proofs.Common.{◌≡◌, ℕ, false, List, [], ◌∷◌, ◌++◌, ◌<◌, length, Ok, Option, Some, None, refl, ap, sym, ◌∙◌, append-nil, append_assoc}
use Rattle.morph_base.specs.declared.batch.Batch.{Batch as TheBatch}
use Rattle.morph_base.specs.Transactions.{Transaction, transactions_of}
use Rattle.morph_io.specs.Told.{ahead, ahead_nil, ahead_ahead, ahead_some, behind}
use Rattle.event_reader.specs.Lines.{front}
use Rattle.event_reader.specs.Steps.{Meaning}
use Rattle.event_reader.specs.Accepted.{Accepted, CutOff, accepted_first, closed_batches}
use Rattle.event_reader.specs.declared.answers.Next.TheVariants.{Batch}
use Rattle.event_reader.specs.declared.past.Past.{Past}
use Rattle.event_reader.specs.Reader.{LinesView, new_lines, no_past, accepted_next, TakesBytes, ShowsBatch}
use Rattle.run_text.specs.Text.{Telling, event_lines}
use Rattle.morph_cli.specs.Runs.{AppendsClosed}
use Rattle.morph_cli.proofs.RunTexts.{fronts, with_batch-fronts}

-- the bytes taken so far: while the source has not come to its end, what they decide, whatever follows, is what was done
-- and what the reader has still to give
pub record TakesOn (meaning : Meaning) (input left : Option (List ℕ)) (past : Past) (lines : LinesView)
    (done : List (List Transaction)) : Type 0 where
  pub taken : List ℕ
  pub parts : input ≡ ahead taken left
  pub shows : lines.ended ≡ false → (more : List ℕ) →
      accepted_first meaning 0 [] (front (taken ++ more)) ≡ fronts done (accepted_next meaning past lines (front (lines.kept ++ more)))

pub takes_start : (meaning : Meaning) (limit : ℕ) (input : Option (List ℕ)) → TakesOn meaning input input no_past (new_lines limit) []
takes_start meaning limit input = record { taken = []; parts = sym (ahead_nil input); shows = λ e more. refl }

-- a batch was given
pub takes_batch : (meaning : Meaning) (input left left' : Option (List ℕ)) (past past' : Past) (lines lines' : LinesView)
    (done : List (List Transaction)) (batch : TheBatch) → TakesOn meaning input left past lines done → 0 < length (transactions_of batch) →
    (lines'.ended ≡ false → lines.ended ≡ false) →
    TakesBytes left left' (ShowsBatch meaning past lines (Ok (Batch batch)) past' lines') →
    TakesOn meaning input left' past' lines' (done ++ transactions_of batch ∷ [])
takes_batch meaning input left left' past past' lines lines' done batch on some unended more_taken = record {
  taken = on.taken ++ more_taken.got;
  parts = on.parts ∙ ap (ahead on.taken) more_taken.taken ∙ ahead_ahead on.taken more_taken.got left';
  shows = λ e more.
      ap (λ l. accepted_first meaning 0 [] (front l)) (append_assoc on.taken more_taken.got more)
      ∙ on.shows (unended e) (more_taken.got ++ more)
      ∙ ap (λ l. fronts done (accepted_next meaning past lines (front l))) (sym (append_assoc lines.kept more_taken.got more))
      ∙ ap (fronts done) (more_taken.shows e more)
      ∙ with_batch-fronts done (transactions_of batch) (accepted_next meaning past' lines' (front (lines'.kept ++ more))) some;
}

nothing_told : (input front back : List ℕ) → Some input ≡ ahead front (ahead back None) → ⊥
unfolding ahead
nothing_told input front back e = cc

-- the source failed: what was done are the batches that are closed within the bytes taken
pub takes_failed : (telling : Telling) (meaning : Meaning) (input : List ℕ) (left left' old new : Option (List ℕ)) (past : Past) (lines : LinesView)
    (done : List (List Transaction)) → TakesOn meaning (Some input) left past lines done → lines.ended ≡ false →
    TakesBytes left left' (λ got. accepted_next meaning past lines (front (lines.kept ++ got)) ≡ record { batches = []; ending = CutOff }) →
    new ≡ behind old (event_lines telling.report done) → AppendsClosed telling.report meaning input left' old new
takes_failed telling meaning input left None old new past lines done on unended last appended =
    absurd (let e = on.parts ∙ ap (ahead on.taken) last.taken in nothing_told input on.taken last.got e)
takes_failed telling meaning input left (Some rest) old new past lines done on unended last appended =
    let taken : List ℕ = on.taken ++ last.got in
    let whole : Some input ≡ Some (taken ++ rest) = on.parts ∙ ap (ahead on.taken) last.taken ∙ ahead_ahead on.taken last.got (Some rest) ∙ ahead_some taken rest in
    let closed_is : closed_batches meaning taken ≡ done =
    ap (λ (a : Accepted). a.batches) (on.shows unended last.got ∙ ap (fronts done) last.shows) ∙ append-nil done in
    record {
      taken = taken;
      rest = rest;
      parts = cc;
      left_is = refl;
      appended = appended ∙ ap (λ l. behind old (event_lines telling.report l)) (sym closed_is);
    }
