use Rattle.std.proofs.Common.{rules}
use Rattle.run_text.specs.Calls.{WritesText}
use Rattle.run_text.proofs.Pieces.{flushed}
use Rattle.run_text.proofs.lines.write_between.Goals as goal

pub returns-clause-text : goal.returns-clause-text
returns-clause-text g c =
    let flush : WritesText g.K.Sink.written g.K.Sink.faults c.put_events.new.out c.flush.result c.put_events.new.sink c.flush.new.sink = search rules in
    flushed c.requires.empty c.in_ok-put_events.ensures flush
