use Rattle.std.proofs.Common.{rules}
use Rattle.run_text.specs.Calls.{WritesText}
use Rattle.run_text.proofs.Pieces.{flushed}
use Rattle.run_text.proofs.checks.write_journal.Goals as goal

pub returns-clause-text : goal.returns-clause-text
returns-clause-text g c =
    let flush : WritesText g.N.Sink.written g.N.Sink.faults c.put_steps.new.out c.flush.result c.put_steps.new.notes c.flush.new.sink = search rules in
    flushed c.requires.empty c.in_ok-put_steps.ensures flush
