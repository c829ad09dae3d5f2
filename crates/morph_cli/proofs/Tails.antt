-- How a run that reads ahead ends, by the tail that its pipe met.
use Rattle.std.proofs.Common.{◌≡◌, ℕ, ◌++◌, inl, inr, List, [], Option, Some, None, Result, Ok, Err, refl, ap, sym, subst, ◌∙◌}
use Rattle.std.specs.Prelude.{IfSome, IsErrOf, ◌≢◌}
use Rattle.morph_base.specs.Flat.{contents}
use Rattle.morph_base.specs.States.{State}
use Rattle.event_reader.specs.declared.cause.Cause.{Cause}
use Rattle.event_reader.specs.declared.fault.ReaderFault.TheVariants.{ReadFault, TooLong as LongInput, OutOfMemory as NoMemory}
use Rattle.event_reader.specs.Accepted.{Accepted, Ended, RefusedAt, CutOff}
use Rattle.batch_pipe.specs.declared.tail.Tail.{Tail}
use Rattle.batch_pipe.specs.declared.tail.Tail.TheVariants.{End, Refused as RefusedLine, Fault as Unread, RunMemory, Untold}
use Rattle.batch_pipe.specs.PlanRuns.{Manner}
use Rattle.batch_pipe.specs.PipeRounds.{PipeView, IsGoing}
use Rattle.run_text.specs.declared.tally.Tally.{Tally}
use Rattle.run_text.specs.Text.{told_values, counts_line, refused_text}
use Rattle.morph_cli.specs.declared.fault.Fault.{Fault}
use Rattle.morph_cli.specs.declared.fault.Fault.TheVariants.{Read, OutOfMemory}
use Rattle.morph_cli.specs.declared.run.Finish.{Finish}
use Rattle.morph_cli.specs.declared.run.Finish.TheVariants.{Complete, Refused}
use Rattle.morph_cli.specs.Faults.{fault_of}
use Rattle.morph_cli.specs.Endings.{EndsBy, FinishesWith}
use Rattle.morph_cli.specs.Outputs.{Outputs, closing_note}
use Rattle.morph_cli.specs.Status.{status_of}
use Rattle.morph_cli.proofs.RunPoints.{reads_only}
use Rattle.morph_cli.proofs.RunEnds.{Course, Goes, Ends, IsTold, IsOver, ends_memory, ends_complete, ends_refused, ends_cut, told_short, told_at_end, told_cut_at_end}
use Rattle.morph_cli.proofs.RunTexts.{IsLast}
use Rattle.morph_cli.proofs.OutputLaws.{cut_text}
use Rattle.morph_cli.proofs.PipedRuns.{Piped, piped_over, state_there, ends_by}

not_cut_ended : Ended ≡ CutOff → ⊥
not_cut_ended e = absurd (cc)

not_cut_refused : (line : ℕ) (cause : Cause) → RefusedAt line cause ≡ CutOff → ⊥
not_cut_refused line cause e = absurd (cc)

-- the source failed: that is what the pipe met
pub read_by_tail : (tail : Option Tail) (x : Result Finish Fault) (old : Outputs) (closing note : List ℕ) (new : Outputs) → EndsBy tail x old closing note new → IsErrOf x Read → tail ≡ Some (Unread ReadFault)
read_by_tail tail (Ok answer) old closing note new ends is = absurd (cc)
read_by_tail None (Err e) old closing note new ends is = absurd (let failed = ends.0 in cc)
read_by_tail (Some RunMemory) (Err e) old closing note new ends is = absurd (let failed = ends.0 in cc)
read_by_tail (Some Untold) (Err e) old closing note new ends is = absurd (let failed = ends.0 in cc)
read_by_tail (Some (Unread ReadFault)) (Err e) old closing note new ends is = refl
read_by_tail (Some (Unread LongInput)) (Err e) old closing note new ends is = absurd (let failed = ends.0 in cc)
read_by_tail (Some (Unread NoMemory)) (Err e) old closing note new ends is = absurd (let failed = ends.0 in cc)
read_by_tail (Some End) (Err e) old closing note new ends is = absurd (let failed = ends.0 in cc)
read_by_tail (Some (RefusedLine line cause)) (Err e) old closing note new ends is = absurd (let failed = ends.0 in cc)

module _ {App : Type 0} {c : Course App} {now : Option Accepted} {new : Outputs} {s : State} {tally : Tally} (newer : Outputs) (left : Option (List ℕ)) (goes : Goes c now new s tally) where
  -- the end of the input was told
  ends_whole : (x : Result Finish Fault) (text : List ℕ) → IfSome now (IsOver Ended) → IsLast c.telling s tally Ended text → FinishesWith Complete x new text (closing_note c.settings tally) newer → Ends c left x newer
  ends_whole (Ok answer) text over last done =
      subst (λ f. Ends c left (Ok f) newer) (sym done.0) (ends_complete left newer text (closing_note c.settings tally) goes over last done.1)
  ends_whole (Err e) text over last done = ends_cut left newer Ended text (ap Err done.0) goes over last (cut_text new text (closing_note c.settings tally) newer done.1)

  told_whole : (x : Result Finish Fault) (text : List ℕ) → IfSome now (IsOver Ended) → IsLast c.telling s tally Ended text → FinishesWith Complete x new text (closing_note c.settings tally) newer → IsTold c (status_of x) tally newer
  told_whole (Ok answer) text over last done =
      subst (λ f. IsTold c (status_of (Ok f)) tally newer) (sym done.0) (told_at_end newer 0 Ended text (inl refl) not_cut_ended goes over last done.1)
  told_whole (Err e) text over last done = told_cut_at_end newer Ended text (ap Err done.0) not_cut_ended goes over last done.1

  -- a refused line was told
  ends_front : (x : Result Finish Fault) (line : ℕ) (cause : Cause) → IfSome now (IsOver (RefusedAt line cause)) → FinishesWith Refused x new (refused_text line cause) (closing_note c.settings tally) newer → Ends c left x newer
  ends_front (Ok answer) line cause over done =
      subst (λ f. Ends c left (Ok f) newer) (sym done.0) (ends_refused left newer line cause (refused_text line cause) (closing_note c.settings tally) goes over refl done.1)
  ends_front (Err e) line cause over done =
      ends_cut left newer (RefusedAt line cause) (refused_text line cause) (ap Err done.0) goes over refl (cut_text new (refused_text line cause) (closing_note c.settings tally) newer done.1)

  told_front : (x : Result Finish Fault) (line : ℕ) (cause : Cause) → IfSome now (IsOver (RefusedAt line cause)) → FinishesWith Refused x new (refused_text line cause) (closing_note c.settings tally) newer → IsTold c (status_of x) tally newer
  told_front (Ok answer) line cause over done =
      subst (λ f. IsTold c (status_of (Ok f)) tally newer) (sym done.0)
      (told_at_end newer 3 (RefusedAt line cause) (refused_text line cause) (inr refl) (not_cut_refused line cause) goes over refl done.1)
  told_front (Err e) line cause over done =
      told_cut_at_end newer (RefusedAt line cause) (refused_text line cause) (ap Err done.0) (not_cut_refused line cause) goes over refl done.1

-- the closing text is that of the run
last_of_run : {App : Type 0} {c : Course App} {m : Manner} {b : PipeView App} {left : Option (List ℕ)} {new : Outputs} {tally : Tally} {out : List ℕ}
    (closing : List ℕ) (p : Piped c m b [] left new tally out) →
    closing ≡ told_values c.telling.report c.telling.layout c.telling.name (contents b.engine) ++ counts_line tally.committed tally.aborted → IsLast c.telling p.state tally Ended closing
last_of_run {App} {c} {m} {b} {left} {new} {tally} {out} closing p closing_is =
    closing_is ∙ ap (λ (s : State). told_values c.telling.report c.telling.layout c.telling.name s ++ counts_line tally.committed tally.aborted) (state_there p)

module _ {App : Type 0} {c : Course App} {m : Manner} {b : PipeView App} {left : Option (List ℕ)} {new : Outputs} {tally : Tally} {out : List ℕ}
    (x : Result Finish Fault) (newer : Outputs) (closing : List ℕ) (p : Piped c m b [] left new tally out) (told : b.tail ≢ Some Untold) (over : IsGoing b → ⊥)
    (closing_is : closing ≡ told_values c.telling.report c.telling.layout c.telling.name (contents b.engine) ++ counts_line tally.committed tally.aborted) where
  pub ends_by_tail : EndsBy b.tail x new closing (closing_note c.settings tally) newer → Ends c left x newer
  ends_by_tail ends = by_tail b.tail refl ends
    where
      by_tail : (t : Option Tail) → b.tail ≡ t → EndsBy t x new closing (closing_note c.settings tally) newer → Ends c left x newer
      by_tail None e ends = subst (Ends c left x) (sym ends.1) (ends_memory left ends.0 p.goes)
      by_tail (Some RunMemory) e ends = subst (Ends c left x) (sym ends.1) (ends_memory left ends.0 p.goes)
      by_tail (Some Untold) e ends = absurd (told e)
      by_tail (Some (Unread fault)) e ends = subst (Ends c left x) (sym ends.1) (ends_by fault ends.0 p over e)
      by_tail (Some End) e ends =
          let o = piped_over p End over e (λ y. absurd (cc)) (λ y. absurd (cc)) in ends_whole newer left o.goes x closing o.stops.answers (last_of_run closing p closing_is) ends
      by_tail (Some (RefusedLine line cause)) e ends =
          let o = piped_over p (RefusedLine line cause) over e (λ y. absurd (cc)) (λ y. absurd (cc)) in ends_front newer left o.goes x line cause o.stops.answers ends

  pub told_by_tail : EndsBy b.tail x new closing (closing_note c.settings tally) newer → IsTold c (status_of x) tally newer
  told_by_tail ends = by_tail b.tail refl ends
    where
      by_tail : (t : Option Tail) → b.tail ≡ t → EndsBy t x new closing (closing_note c.settings tally) newer → IsTold c (status_of x) tally newer
      by_tail None e ends = subst (IsTold c (status_of x) tally) (sym ends.1) (told_short OutOfMemory ends.0 (λ y. absurd (cc)) p.goes)
      by_tail (Some RunMemory) e ends = subst (IsTold c (status_of x) tally) (sym ends.1) (told_short OutOfMemory ends.0 (λ y. absurd (cc)) p.goes)
      by_tail (Some Untold) e ends = absurd (told e)
      by_tail (Some (Unread fault)) e ends = subst (IsTold c (status_of x) tally) (sym ends.1) (told_short (fault_of fault) ends.0 (reads_only fault) p.goes)
      by_tail (Some End) e ends =
          let o = piped_over p End over e (λ y. absurd (cc)) (λ y. absurd (cc)) in told_whole newer left o.goes x closing o.stops.answers (last_of_run closing p closing_is) ends
      by_tail (Some (RefusedLine line cause)) e ends =
          let o = piped_over p (RefusedLine line cause) over e (λ y. absurd (cc)) (λ y. absurd (cc)) in told_front newer left o.goes x line cause o.stops.answers ends
