use Rattle.std.proofs.Common.{◌∙◌, Ok, Err, rules}
use Rattle.run_text.specs.Calls.{WritesText}
use Rattle.run_text.specs.Notes.{settled_note}
use Rattle.run_text.proofs.Pieces.{write_as, write_then, write_stop}
use Rattle.run_text.proofs.notes.write_tally.Goals as goal

pub returns-in_err-write_all : goal.returns-in_err-write_all
returns-in_err-write_all g c =
    let first : WritesText g.N.Sink.written g.N.Sink.faults c.bytes.result.now (Err c.in_err-write_all.field-0.0) c.args.notes.now c.write_all.new.sink = search rules in
    write_stop c.from_residual.result (settled_note c.args.workers c.args.tally.now) c.from_residual.ensures.0 (write_as (c.bytes.ensures.bytes ∙ c.tally_line-first.ensures) first)

pub returns : goal.returns
returns g c =
    let first : WritesText g.N.Sink.written g.N.Sink.faults c.bytes.result.now (Ok c.in_ok-write_all.field-0) c.args.notes.now c.write_all.new.sink = search rules in
    let second : WritesText g.N.Sink.written g.N.Sink.faults c.bytes-2.result.now c.write_all-2.result c.write_all.new.sink c.write_all-2.new.sink = search rules in
    write_then (write_as (c.bytes.ensures.bytes ∙ c.tally_line-first.ensures) first) (write_as (c.bytes-2.ensures.bytes ∙ c.settled_line-second.ensures) second)
