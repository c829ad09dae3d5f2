use Rattle.std.proofs.Common.{◌≡◌, [], sym, refl, ◌∙◌, ap, arith, Ok}
use Rattle.std.proofs.lemmas.Bool.{true≢false}
use Rattle.std.proofs.lemmas.Result.{err_from_is_err_and}
use Rattle.morph_io.specs.Told.{IsAtEnd}
use Rattle.event_reader.specs.Pending.{batch_of}
use Rattle.event_reader.specs.declared.version.Version.TheVariants.{Two}
use Rattle.event_reader.specs.Versions.{is_version_line}
use Rattle.event_reader.proofs.BatchReads.{asked_from, asked_next, asked_all}
use Rattle.event_reader.proofs.BatchAnswers.{nothing_sound, answers_too_long, answers_ended, answers_last, answers_fault_next, shows_fault_next, reads_some, stays_ended, ends_later, answers_batch, shows_batch, answers_refused, plain_by, no_items, behind_version, goes_behind, closes_behind, refuses_behind}
use Rattle.event_reader.proofs.InputVersion.{known_after}
use Rattle.event_reader.proofs.batches.read_batch.Goals as goal

pub lines-init : goal.lines-init
lines-init g c = record {
  reads = asked_from g.S.Source.left g.S.Source.reads (g.A.EventApp.event_of c.args.app.now c.args.size) c.args.past.now c.args.lines.now c.args.source.now (batch_of c.new-pending.result) c.new-pending.ensures.events;
  closed = refl;
  opens = c.requires.opens;
  version = λ first more. absurd (omega (arith, first, more));
  start = λ none. refl;
  same = λ behind. refl;
  notes = c.new-pending.ensures.notes;
  sound = nothing_sound _ _ (batch_of c.new-pending.result) c.new-pending.ensures.events;
  counted = rw c.new-pending.ensures.events (omega arith);
  limit = refl;
  live = c.requires.live;
  numbered = omega arith;
  stays = λ ended. ended;
  at_end = λ unended ended. absurd (true≢false (sym ended ∙ unended));
  idle = λ ended. refl;
  steady = refl;
}

pub returns-in_err-next_line-clause-answer : goal.returns-in_err-next_line-clause-answer
returns-in_err-next_line-clause-answer g c =
    let p = err_from_is_err_and c.from_residual.result c.from_residual.ensures.1 in
    let unended = c.next_line.ensures.unended c.in_err-next_line.ensures.asked in
    rw (p.1, p.2) record {
      answers = answers_fault_next _ _ _ _ _ (batch_of c.lines.pending) c.lines.lines (g.S.Source.left c.lines.source) c.next_line.new.self (g.S.Source.left c.next_line.new.source)
          c.in_err-next_line.field-0.0 _ _ _ c.lines.invariant.reads.has_read c.in_err-next_line.ensures.answers;
      shows = shows_fault_next _ _ _ _ _ (batch_of c.lines.pending) c.lines.lines (g.S.Source.left c.lines.source) c.next_line.new.self (g.S.Source.left c.next_line.new.source)
          c.in_err-next_line.field-0.0 _ c.lines.invariant.reads.has_read unended c.in_err-next_line.ensures.shows;
      asks = asked_all _ _ _ _ _ _ _ _ _ _ c.lines.invariant.reads _ _ _ c.in_err-next_line.ensures.asks _ tt;
    }

pub returns-in-Long-clause-answer : goal.returns-in-Long-clause-answer
returns-in-Long-clause-answer g c =
    let long = rw c.in-Long.is at c.in_ok-next_line.ensures.answers in
    let counts = rw c.in-Long.is at c.in_ok-next_line.ensures.counts in
    record {
      answers = rw (c.number.ensures, counts) (answers_too_long _ _ _ _ _ (batch_of c.lines.pending) c.lines.lines (g.S.Source.left c.lines.source) c.lines.invariant.reads.has_read long);
      shows = reads_some _ _ _ _ _ _ _ _ _ _ _ c.lines.invariant.reads.has_read c.next_line.ensures.shows (λ got. tt);
      asks = asked_all _ _ _ _ _ _ _ _ _ _ c.lines.invariant.reads _ _ _ c.in_ok-next_line.ensures.asks _ c.in_ok-next_line.ensures.asks.ends.0;
    }

pub returns-in-End-clause-answer : goal.returns-in-End-clause-answer
returns-in-End-clause-answer g c =
    let ended = rw c.in-End.is at c.in_ok-next_line.ensures.answers in
    record {
      answers = answers_ended _ _ _ _ _ (batch_of c.lines.pending) c.lines.lines (g.S.Source.left c.lines.source) c.lines.invariant.reads.has_read (c.if-is_empty.ensures.0 refl) ended.1;
      shows = reads_some _ _ _ _ _ _ _ _ _ _ _ c.lines.invariant.reads.has_read c.next_line.ensures.shows (λ got. tt);
      asks = asked_all _ _ _ _ _ _ _ _ _ _ c.lines.invariant.reads _ _ _ c.in_ok-next_line.ensures.asks _ c.in_ok-next_line.ensures.asks.ends.0;
    }

pub returns-in-End-2-clause-answer : goal.returns-in-End-2-clause-answer
returns-in-End-2-clause-answer g c =
    let ended = rw c.in-End-2.is at c.in_ok-next_line.ensures.answers in
    let done = c.in_ok-next_line.ensures.done (ap Ok c.in-End-2.is) in
    record {
      answers = answers_last _ _ _ _ _ (batch_of c.lines.pending) c.lines.lines (g.S.Source.left c.lines.source) _ c.next_line.new.self (g.S.Source.left c.next_line.new.source) c.lines.invariant.reads.has_read ended.0 ended.1;
      shows = reads_some _ _ _ _ _ _ _ _ _ _ _ c.lines.invariant.reads.has_read c.next_line.ensures.shows
          (λ got unended more. absurd (true≢false (sym done.1 ∙ unended)));
      asks = asked_all _ _ _ _ _ _ _ _ _ _ c.lines.invariant.reads _ _ _ c.in_ok-next_line.ensures.asks _ c.in_ok-next_line.ensures.asks.ends.0;
    }

pub returns-in_err-take_line-clause-answer : goal.returns-in_err-take_line-clause-answer
returns-in_err-take_line-clause-answer g c =
    let p = err_from_is_err_and c.from_residual-in_err-take_line.result c.from_residual-in_err-take_line.ensures.1 in
    rw (p.1, p.2) record {
      answers = tt;
      shows = reads_some _ _ _ _ _ _ _ _ _ _ _ c.lines.invariant.reads.has_read c.next_line.ensures.shows (λ got. tt);
      asks = asked_all _ _ _ _ _ _ _ _ _ _ c.lines.invariant.reads _ _ _ c.in_ok-next_line.ensures.asks _ tt;
    }

pub returns-in-Closes-clause-answer : goal.returns-in-Closes-clause-answer
returns-in-Closes-clause-answer g c =
    let told = rw c.in-Line.is at c.in_ok-next_line.ensures.answers in
    let counts = rw c.in-Line.is at c.in_ok-next_line.ensures.counts in
    let plain = λ (first : c.lines.lines.number ≡ 0).
    plain_by (is_version_line c.next_line.new.self.line) c.next_line.new.self.number c.if-says_version.ensures.1 (omega (arith, first, counts)) in
    let closes = rw (c.in-Closes.is, c.line.ensures, c.lines.invariant.closed) at c.in_ok-take_line.ensures in
    let takes = rw c.in-Line.is at c.in_ok-next_line.ensures.shows in
    record {
      answers = rw closes.same
          (answers_batch _ _ _ _ _ (batch_of c.lines.pending) c.lines.lines (g.S.Source.left c.lines.source) c.next_line.new.self (g.S.Source.left c.next_line.new.source)
          (record { version = c.lines.past.version; closed = c.lines.pending.latest }) c.lines.invariant.reads.has_read told.0 counts
          (closes_behind (g.A.EventApp.event_of c.args.app.now c.args.size) c.lines.past.version c.lines.lines.number c.args.past.now.closed (batch_of c.lines.pending) c.next_line.new.self.line c.lines.invariant.opens plain c.lines.pending.latest closes.leads));
      shows = rw closes.same
          (shows_batch _ _ _ _ _ (batch_of c.lines.pending) c.lines.lines (g.S.Source.left c.lines.source) c.next_line.new.self (g.S.Source.left c.next_line.new.source)
          (record { version = c.lines.past.version; closed = c.lines.pending.latest }) c.lines.invariant.reads.has_read told.0 takes c.next_line.ensures.unended counts
          (closes_behind (g.A.EventApp.event_of c.args.app.now c.args.size) c.lines.past.version c.lines.lines.number c.args.past.now.closed (batch_of c.lines.pending) c.next_line.new.self.line c.lines.invariant.opens plain c.lines.pending.latest closes.leads));
      asks = asked_all _ _ _ _ _ _ _ _ _ _ c.lines.invariant.reads _ _ _ c.in_ok-next_line.ensures.asks _ c.in_ok-next_line.ensures.asks.ends.0;
    }

pub lines-preserved : goal.lines-preserved
lines-preserved g c =
    let told = rw c.in-Line.is at c.in_ok-next_line.ensures.answers in
    let counts = rw c.in-Line.is at c.in_ok-next_line.ensures.counts in
    let plain = λ (first : c.lines.lines.number ≡ 0).
    plain_by (is_version_line c.next_line.new.self.line) c.next_line.new.self.number c.if-says_version.ensures.1 (omega (arith, first, counts)) in
    let takes = rw c.in-Line.is at c.in_ok-next_line.ensures.shows in
    let asks = rw c.in-Line.is at c.in_ok-next_line.ensures.asks in
    let goes = rw (c.in-GoesOn.is, c.line.ensures, c.lines.invariant.closed) at c.in_ok-take_line.ensures in
    record {
      reads = asked_next _ _ _ _ _ _ _ _ (batch_of c.lines.pending) (batch_of c.take_line.new.self) c.lines.lines c.lines.source c.lines.invariant.reads c.next_line.new.self c.next_line.new.source asks told.0 c.next_line.ensures.unended counts
          (goes_behind (g.A.EventApp.event_of c.args.app.now c.args.size) c.lines.past.version c.lines.lines.number c.args.past.now.closed (batch_of c.lines.pending) c.next_line.new.self.line c.lines.invariant.opens plain (batch_of c.take_line.new.self) goes.leads);
      closed = c.lines.invariant.closed;
      opens = λ none. absurd (omega (arith, none, counts));
      version = known_after _ _ _ _ _ c.lines.invariant.version c.lines.past.version c.next_line.new.self.line _ _ told.0 c.lines.invariant.start
          (λ none. rw (plain none) (c.lines.invariant.opens none)) (λ more. refl);
      start = λ none. absurd (omega (arith, none, counts, c.lines.invariant.numbered));
      same = c.lines.invariant.same;
      notes = goes.notes;
      sound = goes.sound;
      counted = omega (arith, c.lines.invariant.counted, goes.more, counts);
      limit = c.next_line.ensures.limit ∙ c.lines.invariant.limit;
      live = rw c.in-Line.is at c.in_ok-next_line.ensures.goes_on;
      numbered = omega (arith, c.lines.invariant.numbered, counts);
      stays = λ ended. stays_ended _ _ c.next_line.ensures.unended (c.lines.invariant.stays ended);
      at_end = ends_later (λ s. IsAtEnd (g.S.Source.left s)) _ _ _ _ _ c.lines.invariant.at_end c.next_line.ensures.at_end c.next_line.ensures.idle;
      idle = λ ended. c.next_line.ensures.idle (c.lines.invariant.stays ended) ∙ c.lines.invariant.idle ended;
      steady = c.in_ok-next_line.ensures.steady (λ failed. absurd (cc)) ∙ c.lines.invariant.steady;
    }

-- the version line leads on
pub lines-preserved-then-says_version : goal.lines-preserved-then-says_version
lines-preserved-then-says_version g c =
    let told = rw c.in-Line.is at c.in_ok-next_line.ensures.answers in
    let counts = rw c.in-Line.is at c.in_ok-next_line.ensures.counts in
    let asks = rw c.in-Line.is at c.in_ok-next_line.ensures.asks in
    let says = c.if-says_version.ensures.0 refl in
    let none : c.lines.lines.number ≡ 0 = omega (arith, counts, says.0) in
    let empty : batch_of c.lines.pending ≡ [] = no_items (batch_of c.lines.pending) (omega (arith, none, c.lines.invariant.counted)) in
    record {
      reads = asked_next _ _ _ _ _ _ _ Two (batch_of c.lines.pending) (batch_of c.lines.pending) c.lines.lines c.lines.source c.lines.invariant.reads c.next_line.new.self c.next_line.new.source asks told.0 c.next_line.ensures.unended counts
          (behind_version (g.A.EventApp.event_of c.args.app.now c.args.size) c.lines.past.version c.lines.lines.number c.args.past.now.closed (batch_of c.lines.pending) c.next_line.new.self.line none says.1);
      closed = c.lines.invariant.closed;
      opens = λ first. absurd (omega (arith, first, counts));
      version = known_after _ _ _ _ _ c.lines.invariant.version Two c.next_line.new.self.line _ _ told.0 c.lines.invariant.start
          (λ first. rw says.1 refl) (λ more. absurd (omega (arith, none, more)));
      start = λ first. absurd (omega (arith, first, counts, c.lines.invariant.numbered));
      same = λ behind. absurd (omega (arith, behind, none, c.lines.invariant.numbered));
      notes = c.lines.invariant.notes;
      sound = nothing_sound Two _ (batch_of c.lines.pending) empty;
      counted = omega (arith, c.lines.invariant.counted, counts);
      limit = c.next_line.ensures.limit ∙ c.lines.invariant.limit;
      live = rw c.in-Line.is at c.in_ok-next_line.ensures.goes_on;
      numbered = omega (arith, c.lines.invariant.numbered, counts);
      stays = λ ended. stays_ended _ _ c.next_line.ensures.unended (c.lines.invariant.stays ended);
      at_end = ends_later (λ s. IsAtEnd (g.S.Source.left s)) _ _ _ _ _ c.lines.invariant.at_end c.next_line.ensures.at_end c.next_line.ensures.idle;
      idle = λ ended. c.next_line.ensures.idle (c.lines.invariant.stays ended) ∙ c.lines.invariant.idle ended;
      steady = c.in_ok-next_line.ensures.steady (λ failed. absurd (cc)) ∙ c.lines.invariant.steady;
    }

pub returns-in-Refuses-clause-answer : goal.returns-in-Refuses-clause-answer
returns-in-Refuses-clause-answer g c =
    let told = rw c.in-Line.is at c.in_ok-next_line.ensures.answers in
    let counts = rw c.in-Line.is at c.in_ok-next_line.ensures.counts in
    let plain = λ (first : c.lines.lines.number ≡ 0).
    plain_by (is_version_line c.next_line.new.self.line) c.next_line.new.self.number c.if-says_version.ensures.1 (omega (arith, first, counts)) in
    let refused = rw (c.in-Refuses.is, c.line.ensures, c.lines.invariant.closed) at c.in_ok-take_line.ensures in
    record {
      answers = rw c.number-in-Refuses.ensures (answers_refused _ _ _ _ _ (batch_of c.lines.pending) c.lines.lines (g.S.Source.left c.lines.source) c.next_line.new.self (g.S.Source.left c.next_line.new.source) c.in-Refuses.cause c.lines.invariant.reads.has_read told.0 counts
          (refuses_behind (g.A.EventApp.event_of c.args.app.now c.args.size) c.lines.past.version c.lines.lines.number c.args.past.now.closed (batch_of c.lines.pending) c.next_line.new.self.line c.lines.invariant.opens plain c.in-Refuses.cause refused));
      shows = reads_some _ _ _ _ _ _ _ _ _ _ _ c.lines.invariant.reads.has_read c.next_line.ensures.shows (λ got. tt);
      asks = asked_all _ _ _ _ _ _ _ _ _ _ c.lines.invariant.reads _ _ _ c.in_ok-next_line.ensures.asks _ c.in_ok-next_line.ensures.asks.ends.0;
    }
