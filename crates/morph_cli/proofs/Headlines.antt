-- The headline of a run, from how the run ends.
use Rattle.std.proofs.Common.{◌≡◌, ◌⊎◌, ℕ, ◌<◌, inl, inr, List, [], ◌++◌, Option, Some, Result, Ok, Err, refl, ap, sym, subst, ◌∙◌, arith, append-nil, append_assoc}
use Rattle.std.specs.Prelude.{IsErrOf}
use Rattle.morph_io.specs.Told.{behind}
use Rattle.morph_io.proofs.BufferPuts.{prefix_more}
use Rattle.event_reader.specs.Steps.{Meaning}
use Rattle.event_reader.specs.Accepted.{Accepted, Ending, Ended, RefusedAt, CutOff, accepted, accepted_within}
use Rattle.event_reader.proofs.Fronts.{within_is_first, within_ended, within_refused, within_cut}
use Rattle.morph_cli.specs.declared.fault.Fault.{Fault}
use Rattle.morph_cli.specs.declared.fault.Fault.TheVariants.{Read, Write, OutOfMemory, TooLong}
use Rattle.morph_cli.specs.declared.run.Finish.{Finish}
use Rattle.morph_cli.specs.declared.run.Finish.TheVariants.{Complete, Refused}
use Rattle.run_text.specs.Text.{Telling, event_lines, end_text, whole_text}
use Rattle.morph_cli.specs.Runs.{EndsSo}
use Rattle.morph_cli.specs.Status.{status_of}
use Rattle.morph_cli.specs.Headline.{Headline, Completes}
use Rattle.run_text.specs.declared.tally.Tally.{Tally}
use Rattle.morph_cli.specs.Outputs.{Outputs, closing_note, with_batches, IsCutIn, IsCutInBatch, IsAtLast}
use Rattle.morph_cli.specs.Requests.{Request}
use Rattle.morph_cli.specs.Tallies.{RunTold}
use Rattle.morph_cli.proofs.RunTexts.{event_lines-front}

module _ (meaning : Meaning) (telling : Telling) (limit : ℕ) (input : List ℕ) where
  abbrev some : Accepted
  some = accepted_within meaning limit input

  abbrev all : Accepted
  all = accepted meaning input

  -- the text of what is read within the limit is a front of the whole text
  front_of_text : (rest : List ℕ) × (whole_text telling all ≡ whole_text telling some ++ rest)
  front_of_text = by_ending some.ending refl
    where
      by_ending : (ending : Ending) → some.ending ≡ ending → (rest : List ℕ) × (whole_text telling all ≡ whole_text telling some ++ rest)
      by_ending Ended is =
          ([], ap (whole_text telling) (within_ended meaning limit input is).1 ∙ sym (append-nil (whole_text telling some)))
      by_ending (RefusedAt line cause) is =
          ([], ap (whole_text telling) (within_refused meaning limit input line cause is) ∙ sym (append-nil (whole_text telling some)))
      by_ending CutOff is =
          let more = (within_is_first meaning limit input).more in
          let lines = event_lines-front telling some.batches more in
          let nothing : whole_text telling some ≡ event_lines telling.report some.batches =
          ap (λ e. event_lines telling.report some.batches ++ end_text telling some.batches e) is ∙ append-nil (event_lines telling.report some.batches) in (
            lines.0 ++ end_text telling all.batches all.ending,
            ap (λ l. l ++ end_text telling all.batches all.ending) (ap (event_lines telling.report) (within_is_first meaning limit input).batches ∙ lines.1)
                ∙ append_assoc (event_lines telling.report some.batches) lines.0 (end_text telling all.batches all.ending)
                ∙ ap (λ l. l ++ (lines.0 ++ end_text telling all.batches all.ending)) (sym nothing),
          )

  abbrev Holds : (left old new : Option (List ℕ)) → Result Finish Fault → Type 0
  Holds left old new r = Headline meaning telling limit input left old new (status_of r)

  pub headline : (left old new : Option (List ℕ)) (r : Result Finish Fault) → EndsSo meaning telling limit input left old r new → Holds left old new r
  headline left old new (Ok Complete) ends =
      let fits = within_ended meaning limit input ends.0 in
      record {
        done = λ is. (fits.0, ap (λ a. a.ending) fits.1 ∙ ends.0, ends.1 ∙ ap (λ a. behind old (whole_text telling a)) (sym fits.1));
        refused = λ is. absurd (omega (arith, is));
        read = λ is. absurd (omega (arith, is));
        write = λ is. absurd (omega (arith, is));
        memory = λ is. absurd (omega (arith, is));
        long = λ is. absurd (omega (arith, is));
      }
  headline left old new (Ok Refused) (line, cause, at, appended) =
      let same = within_refused meaning limit input line cause at in
      record {
        done = λ is. absurd (omega (arith, is));
        refused = λ is. (line, cause, ap (λ a. a.ending) same ∙ at, appended ∙ ap (λ a. behind old (whole_text telling a)) (sym same));
        read = λ is. absurd (omega (arith, is));
        write = λ is. absurd (omega (arith, is));
        memory = λ is. absurd (omega (arith, is));
        long = λ is. absurd (omega (arith, is));
      }
  headline left old new (Err Read) ends = record {
    done = λ is. absurd (omega (arith, is));
    refused = λ is. absurd (omega (arith, is));
    read = λ is. ends;
    write = λ is. absurd (omega (arith, is));
    memory = λ is. absurd (omega (arith, is));
    long = λ is. absurd (omega (arith, is));
  }
  headline left old new (Err Write) ends = record {
    done = λ is. absurd (omega (arith, is));
    refused = λ is. absurd (omega (arith, is));
    read = λ is. absurd (omega (arith, is));
    write = λ is. prefix_more old new (whole_text telling some) front_of_text.0 (whole_text telling all) front_of_text.1 ends;
    memory = λ is. absurd (omega (arith, is));
    long = λ is. absurd (omega (arith, is));
  }
  headline left old new (Err OutOfMemory) ends = record {
    done = λ is. absurd (omega (arith, is));
    refused = λ is. absurd (omega (arith, is));
    read = λ is. absurd (omega (arith, is));
    write = λ is. absurd (omega (arith, is));
    memory = λ is. record {
      done = ends.done;
      rest = ends.rest ++ (within_is_first meaning limit input).more;
      parts = (within_is_first meaning limit input).batches ∙ ap (λ l. l ++ (within_is_first meaning limit input).more) ends.parts
          ∙ append_assoc ends.done ends.rest (within_is_first meaning limit input).more;
      appended = ends.appended;
    };
    long = λ is. absurd (omega (arith, is));
  }
  headline left old new (Err TooLong) ends =
      let cut = within_cut meaning limit input ends.0 in
      record {
        done = λ is. absurd (omega (arith, is));
        refused = λ is. absurd (omega (arith, is));
        read = λ is. absurd (omega (arith, is));
        write = λ is. absurd (omega (arith, is));
        memory = λ is. absurd (omega (arith, is));
        long = λ is. (cut.0, ends.0, ends.1 ∙ ap (λ l. behind old (event_lines telling.report l)) cut.1);
      }

  abbrev Comes : Result Finish Fault → Type 0
  Comes r = Completes meaning limit input (status_of r)

  -- without a fault of the source and the sink, the status is the one that the input asks for, or want of memory
  pub completes : (left old new : Option (List ℕ)) (r : Result Finish Fault) → EndsSo meaning telling limit input left old r new
      → (IsErrOf r Read → ⊥) → (IsErrOf r Write → ⊥) → Comes r
  completes left old new (Ok Complete) ends reads writes = record {
    done = λ fits is. inl refl;
    refused = λ line cause is. absurd (cc);
    long = λ is. absurd (cc);
  }
  completes left old new (Ok Refused) (line, cause, at, appended) reads writes = record {
    done = λ fits is. let same = within_refused meaning limit input line cause at in absurd (cc);
    refused = λ line' cause' is. inl refl;
    long = λ is. absurd (cc);
  }
  completes left old new (Err Read) ends reads writes = absurd (reads refl)
  completes left old new (Err Write) ends reads writes = absurd (writes refl)
  completes left old new (Err OutOfMemory) ends reads writes = record {
    done = λ fits is. inr refl;
    refused = λ line cause is. inr refl;
    long = λ is. inr refl;
  }
  completes left old new (Err TooLong) ends reads writes = record {
    done = λ fits is. let cut = within_cut meaning limit input ends.0 in absurd (omega (arith, cut.0));
    refused = λ line cause is. absurd (cc);
    long = λ is. inl refl;
  }

module _ (asked : Request) (limit : ℕ) (input : List ℕ) where
  abbrev Told : Accepted → (status : ℕ) → Tally → (old new : Outputs) → Type 0
  Told given status t old new = RunTold asked (Some given) status t old new

  -- what is told of a run that was cut off before the end, over the whole input
  told_within : (status : ℕ) (t : Tally) (old new : Outputs) (counted : Told (accepted_within asked.meaning limit input) status t old new) →
      ((status ≡ 0) ⊎ (status ≡ 3) → ⊥) → (status ≡ 5 → IsCutInBatch asked counted.done counted.accounts counted.audits old new) →
      Told (accepted asked.meaning input) status t old new
  told_within status t old new counted unended cut =
      let first = within_is_first asked.meaning limit input in
      record {
        done = counted.done;
        rest = counted.rest ++ first.more;
        accounts = counted.accounts;
        audits = counted.audits;
        audited = counted.audited;
        parts = first.batches ∙ ap (λ l. l ++ first.more) counted.parts ∙ append_assoc counted.done counted.rest first.more;
        ran = counted.ran;
        sound = counted.sound;
        checked = counted.checked;
        counts = counted.counts;
        founded = counted.founded;
        balanced = counted.balanced;
        whole = λ is. absurd (unended is);
        short = counted.short;
        cut = λ is. inl (cut is);
      }

  -- and of one that came to its end
  told_same : (status : ℕ) (t : Tally) (old new : Outputs) (ending : Ending) → (ending ≡ CutOff → ⊥) → (accepted_within asked.meaning limit input).ending ≡ ending →
      Told (accepted_within asked.meaning limit input) status t old new → Told (accepted asked.meaning input) status t old new
  told_same status t old new Ended reached is counted =
      subst (λ a. Told a status t old new) (sym (within_ended asked.meaning limit input is).1) counted
  told_same status t old new (RefusedAt line cause) reached is counted =
      subst (λ a. Told a status t old new) (sym (within_refused asked.meaning limit input line cause is)) counted
  told_same status t old new CutOff reached is counted = absurd (reached refl)

  not_whole : (status : ℕ) → (3 < status) → (status ≡ 0) ⊎ (status ≡ 3) → ⊥
  not_whole status high (inl is) = absurd (omega (arith, is, high))
  not_whole status high (inr is) = absurd (omega (arith, is, high))

  pub told_all : (left : Option (List ℕ)) (r : Result Finish Fault) (t : Tally) (old new : Outputs) → EndsSo asked.meaning asked.telling limit input left old.sink r new.sink →
      Told (accepted_within asked.meaning limit input) (status_of r) t old new → Told (accepted asked.meaning input) (status_of r) t old new
  told_all left (Ok Complete) t old new ends counted = told_same 0 t old new Ended (λ is. absurd (cc)) ends.0 counted
  told_all left (Ok Refused) t old new (line, cause, at, appended) counted = told_same 3 t old new (RefusedAt line cause) (λ is. absurd (cc)) at counted
  told_all left (Err Read) t old new ends counted = told_within 4 t old new counted (not_whole 4 (omega arith)) (λ is. absurd (omega (arith, is)))
  told_all left (Err OutOfMemory) t old new ends counted = told_within 6 t old new counted (not_whole 6 (omega arith)) (λ is. absurd (omega (arith, is)))
  told_all left (Err TooLong) t old new ends counted = told_within 7 t old new counted (not_whole 7 (omega arith)) (λ is. absurd (omega (arith, is)))
  told_all left (Err Write) t old new ends counted = by_cut (counted.cut refl)
    where
      by_cut : IsCutInBatch asked counted.done counted.accounts counted.audits old new ⊎ ((last : IsAtLast (Some (accepted_within asked.meaning limit input)) counted.rest)
          × IsCutIn (with_batches old asked counted.done counted.accounts counted.audits) (end_text asked.telling counted.done last.ending) (closing_note asked.settings t) new) →
          Told (accepted asked.meaning input) 5 t old new
      by_cut (inl cut) = told_within 5 t old new counted (not_whole 5 (omega arith)) (λ is. cut)
      by_cut (inr last) = told_same 5 t old new last.0.ending last.0.reached last.0.ends counted
