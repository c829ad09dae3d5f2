use Rattle.std.proofs.Common.{rules}
use Rattle.run_text.specs.Calls.{WritesText}
use Rattle.run_text.specs.Text.{refused_text}
use Rattle.run_text.proofs.Pieces.{flushed}
use Rattle.run_text.proofs.output.write_refused.Goals as goal

pub returns : goal.returns
returns g c =
    let flush : WritesText g.K.Sink.written g.K.Sink.faults c.put_refused.new.out c.flush.result c.put_refused.new.sink c.flush.new.sink = search rules in
    let all : WritesText g.K.Sink.written g.K.Sink.faults (refused_text c.args.number c.args.cause) c.flush.result c.args.sink.now c.flush.new.sink =
    flushed c.requires.empty c.in_ok-put_refused.ensures flush in
    search rules
