use Rattle.std.proofs.Common.{◌++◌, List, ℕ, rules}
use Rattle.morph_base.specs.Flat.{contents}
use Rattle.run_text.specs.Calls.{WritesText}
use Rattle.run_text.specs.Text.{told_values, counts_line}
use Rattle.run_text.proofs.Pieces.{put_then, put_stop, put_failed, as_written, flushed}
use Rattle.run_text.proofs.output.write_closing.Goals as goal

pub returns-in_err-put_told_values : goal.returns-in_err-put_told_values
returns-in_err-put_told_values g c =
    let values : List ℕ = told_values c.args.report c.args.values.now.layout (g.A.EventApp.name_of c.args.app.now) (contents c.args.values.now) in
    let counts : List ℕ = counts_line c.args.tally.now.committed c.args.tally.now.aborted in
    let cut : WritesText g.K.Sink.written g.K.Sink.faults (values ++ counts) c.from_residual.result c.args.sink.now c.put_told_values.new.sink =
    as_written c.requires.empty (put_stop {front = values} c.from_residual.result counts c.from_residual.ensures.0 c.in_err-put_told_values.ensures) in
    search rules

pub returns-in_err-put_counts : goal.returns-in_err-put_counts
returns-in_err-put_counts g c =
    let values : List ℕ = told_values c.args.report c.args.values.now.layout (g.A.EventApp.name_of c.args.app.now) (contents c.args.values.now) in
    let counts : List ℕ = counts_line c.args.tally.now.committed c.args.tally.now.aborted in
    let cut : WritesText g.K.Sink.written g.K.Sink.faults (values ++ counts) c.from_residual-in_err-put_counts.result c.args.sink.now c.put_counts.new.sink =
    as_written c.requires.empty (put_then {front = values} {back = counts} c.in_ok-put_told_values.ensures (put_failed c.from_residual-in_err-put_counts.result c.from_residual-in_err-put_counts.ensures.0 c.in_err-put_counts.ensures)) in
    search rules

pub returns : goal.returns
returns g c =
    let values : List ℕ = told_values c.args.report c.args.values.now.layout (g.A.EventApp.name_of c.args.app.now) (contents c.args.values.now) in
    let counts : List ℕ = counts_line c.args.tally.now.committed c.args.tally.now.aborted in
    let flush : WritesText g.K.Sink.written g.K.Sink.faults c.put_counts.new.out c.flush.result c.put_counts.new.sink c.flush.new.sink = search rules in
    let all : WritesText g.K.Sink.written g.K.Sink.faults (values ++ counts) c.flush.result c.args.sink.now c.flush.new.sink =
    flushed c.requires.empty (put_then {front = values} {back = counts} c.in_ok-put_told_values.ensures c.in_ok-put_counts.ensures) flush in
    search rules
