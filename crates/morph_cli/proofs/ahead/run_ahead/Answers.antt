use Rattle.std.proofs.Common.{◌≡◌, ℕ, ◌+◌, ◌++◌, List, Some, Result, Err, refl, ap, sym, ◌∙◌, arith}
use Rattle.std.specs.Prelude.{◌≢◌, IsErrOf}
use Rattle.event_reader.specs.declared.limits.TheConstants.{INPUT_BYTES}
use Rattle.morph_base.specs.Flat.{Kept, contents}
use Rattle.morph_base.specs.declared.key.Layout.{Layout}
use Rattle.batch_pipe.specs.declared.tail.Tail.TheVariants.{Untold}
use Rattle.batch_pipe.specs.PlanRuns.{manner}
use Rattle.batch_pipe.specs.PipeRounds.{PipeView, IsGoing, number_before}
use Rattle.morph_cli.specs.declared.fault.Fault.{Fault}
use Rattle.morph_cli.specs.declared.fault.Fault.TheVariants.{Read, Write}
use Rattle.morph_cli.specs.declared.run.Finish.{Finish}
use Rattle.run_text.specs.declared.choices.Settings.{Settings}
use Rattle.run_text.specs.declared.tally.Tally.{Tally}
use Rattle.run_text.specs.Reports.{report_of}
use Rattle.run_text.specs.Text.{told_values, counts_line}
use Rattle.morph_cli.specs.Outputs.{outputs_of}
use Rattle.morph_cli.specs.Tellers.{TellerView, teller_view}
use Rattle.std.proofs.lemmas.Bool.{true≢false}
use Rattle.batch_pipe.proofs.Rounds.{turns_fall}
use Rattle.morph_cli.proofs.RunPoints.{course_of}
use Rattle.morph_cli.proofs.FaultLaws.{counts_still, faults_since, faults_ahead}
use Rattle.morph_cli.proofs.NoteLaws.{unchecked_ahead, noted_so}
use Rattle.morph_cli.proofs.Tails.{read_by_tail, ends_by_tail, told_by_tail}
use Rattle.morph_cli.proofs.PipedRuns.{piped_start, piped_round, told_whole, told_short, read_in_round, can_tell_first}
use Rattle.morph_cli.proofs.ahead.run_ahead.Goals as goal

-- a failed write is no failed read
not_read : (x : Result Finish Fault) → x ≡ Err Write → IsErrOf x Read → ⊥
not_read x failed is = absurd (let both = sym failed ∙ is in cc)

pub rounds-init : goal.rounds-init
rounds-init g c =
    record {
      run = piped_start (course_of g.A.EventApp.event_of (g.A.EventApp.table_count c.args.job.now.app) (g.A.EventApp.name_of c.args.job.now.app) c.args.job.now.app c.args.job.now.settings INPUT_BYTES (g.S.Source.left c.args.source.now)
          (outputs_of (g.K.Sink.written c.args.sink.now) (g.N.Sink.written c.args.notes.now)))
          (manner c.picker-pick.result c.args.job.now.settings.workers) c.args.ahead.now.pipe c.args.job.now.settings.ahead c.args.tally.now c.args.ahead.now.out c.requires.pipe c.requires.opening c.requires.layout c.requires.tally c.requires.empty;
      next = λ uncut. can_tell_first c.args.job.now.settings c.args.ahead.now.out c.args.tally.now (outputs_of (g.K.Sink.written c.args.sink.now) (g.N.Sink.written c.args.notes.now)) (g.K.Sink.faults c.args.sink.now)
          (g.N.Sink.faults c.args.notes.now) (number_before c.args.ahead.now.pipe + 1) (omega arith) c.requires.empty (unchecked_ahead c.args.job.now.settings c.requires.settings c.requires.ahead) c.requires.tally;
      told = λ is. (let none = ap (λ (v : PipeView _). v.tail) c.requires.pipe in absurd (cc));
      read = λ is. (let none = ap (λ (v : PipeView _). v.tail) c.requires.pipe in absurd (cc));
      source_faults = omega arith;
      sink_steady = refl;
      notes_steady = refl;
    }

pub tell_round-requires-clause-next : goal.tell_round-requires-clause-next
tell_round-requires-clause-next g c κs within = c.rounds.invariant.next (c.going.ensures.going.0 c.rounds-test.true).1

pub rounds-smaller : goal.rounds-smaller
rounds-smaller g c =
    let fall = turns_fall c.tell_round.ensures.round (c.going.ensures.going.0 c.rounds-test.true) c.going.ensures.bound in
    omega (arith, fall)

pub rounds-preserved : goal.rounds-preserved
rounds-preserved g c =
    let i = c.rounds.invariant in
    let going = c.going.ensures.going.0 c.rounds-test.true in
    let q = c.tell_round.ensures.round in
    let told : c.tell_round.new.ahead.pipe.tail ≢ Some Untold = λ is. true≢false (sym (c.if-is_untold.ensures.1 is)) in
    let v : TellerView = teller_view c.args.job.now.settings c.rounds.ahead.out c.rounds.tally (outputs_of (g.K.Sink.written c.rounds.sink) (g.N.Sink.written c.rounds.notes)) (g.K.Sink.faults c.rounds.sink) (g.N.Sink.faults c.rounds.notes) in
    let v' : TellerView = teller_view c.args.job.now.settings c.tell_round.new.ahead.out c.tell_round.new.tally (outputs_of (g.K.Sink.written c.tell_round.new.sink) (g.N.Sink.written c.tell_round.new.notes)) (g.K.Sink.faults c.tell_round.new.sink)
    (g.N.Sink.faults c.tell_round.new.notes) in
    let to = told_whole c.picker-pick.ensures refl refl (unchecked_ahead c.args.job.now.settings c.requires.settings c.requires.ahead) q.rans v v' refl (piped_round i.run going q) (q.told told) in
    record {
      run = to.run;
      next = c.tell_round.ensures.next;
      told = told;
      read = read_in_round (g.S.Source.faults c.args.source.now) (g.S.Source.faults c.rounds.source) (g.S.Source.faults c.tell_round.new.source) q i.source_faults c.tell_round.ensures.never_falls i.read c.tell_round.ensures.cause;
      source_faults = omega (arith, i.source_faults, c.tell_round.ensures.never_falls);
      sink_steady = to.sink_steady ∙ i.sink_steady;
      notes_steady = to.notes_steady ∙ i.notes_steady;
    }

pub returns-then-is_untold : goal.returns-then-is_untold
returns-then-is_untold g c =
    let i = c.rounds.invariant in
    let going = c.going.ensures.going.0 c.rounds-test.true in
    let q = c.tell_round.ensures.round in
    let v : TellerView = teller_view c.args.job.now.settings c.rounds.ahead.out c.rounds.tally (outputs_of (g.K.Sink.written c.rounds.sink) (g.N.Sink.written c.rounds.notes)) (g.K.Sink.faults c.rounds.sink) (g.N.Sink.faults c.rounds.notes) in
    let v' : TellerView = teller_view c.args.job.now.settings c.tell_round.new.ahead.out c.tell_round.new.tally (outputs_of (g.K.Sink.written c.tell_round.new.sink) (g.N.Sink.written c.tell_round.new.notes)) (g.K.Sink.faults c.tell_round.new.sink)
    (g.N.Sink.faults c.tell_round.new.notes) in
    let short = told_short c.picker-pick.ensures refl refl (unchecked_ahead c.args.job.now.settings c.requires.settings c.requires.ahead) q.rans v v' refl refl (piped_round i.run going q) (q.untold (c.if-is_untold.ensures.0 refl)) in
    record {
      run = record {
        ends = short.ends (g.S.Source.left c.tell_round.new.source);
        told = short.told;
        faults = faults_since c.args.job.now.settings (counts_still refl i.sink_steady i.notes_steady refl) (faults_ahead c.args.job.now.settings (noted_so c.args.job.now.settings) c.requires.ahead (omega (arith, i.source_faults, c.tell_round.ensures.never_falls))
            (λ is. absurd (not_read _ refl is)) short.sink_faults short.notes_faults (λ is. short.cause) (λ other. absurd (other refl)));
      };
    }

-- ---- the end

-- the closing text of the values at the end
abbrev closing_text : Settings → (name : ℕ → List ℕ) → Kept → Tally → List ℕ
closing_text s name kept tally = told_values (report_of s) kept.layout name (contents kept) ++ counts_line tally.committed tally.aborted

closing_there : (s : Settings) (name : ℕ → List ℕ) (kept : Kept) (tally : Tally) (layout : Layout) → kept.layout ≡ layout →
    told_values (report_of s) kept.layout name (contents kept) ++ counts_line tally.committed tally.aborted ≡ told_values (report_of s) layout name (contents kept) ++ counts_line tally.committed tally.aborted
closing_there s name kept tally layout is = ap (λ l. told_values (report_of s) l name (contents kept) ++ counts_line tally.committed tally.aborted) is

pub end_ahead-requires-clause-layout : goal.end_ahead-requires-clause-layout
end_ahead-requires-clause-layout g c = c.rounds.invariant.run.layout

pub end_ahead-requires-clause-all : goal.end_ahead-requires-clause-all
end_ahead-requires-clause-all g c = c.rounds.invariant.run.goes.tallied.counts.workers

pub returns : goal.returns
returns g c =
    let i = c.rounds.invariant in
    let p = i.run in
    let pipe = c.rounds.ahead.pipe in
    let over : IsGoing pipe → ⊥ = λ going. true≢false (sym (c.going.ensures.going.1 going) ∙ c.rounds-test.false) in
    let closing = closing_text c.args.job.now.settings (g.A.EventApp.name_of c.args.job.now.app) pipe.engine c.rounds.tally in
    let there = closing_there c.args.job.now.settings (g.A.EventApp.name_of c.args.job.now.app) pipe.engine c.rounds.tally _ p.layout in
    record {
      run = record {
        ends = ends_by_tail c.end_ahead.result (outputs_of (g.K.Sink.written c.end_ahead.new.sink) (g.N.Sink.written c.end_ahead.new.notes)) closing p i.told over there c.end_ahead.ensures.ends;
        told = told_by_tail c.end_ahead.result (outputs_of (g.K.Sink.written c.end_ahead.new.sink) (g.N.Sink.written c.end_ahead.new.notes)) closing p i.told over there c.end_ahead.ensures.ends;
        faults = faults_since c.args.job.now.settings (counts_still refl i.sink_steady i.notes_steady refl) (faults_ahead c.args.job.now.settings (noted_so c.args.job.now.settings) c.requires.ahead i.source_faults
            (λ is. i.read (read_by_tail _ c.end_ahead.result _ _ _ _ c.end_ahead.ensures.ends is))
            c.end_ahead.ensures.sink_faults c.end_ahead.ensures.notes_faults c.end_ahead.ensures.write c.end_ahead.ensures.steady);
      };
    }
