use Rattle.std.proofs.Common.{◌<◌, Ok, Err, sym, arith, rules}
use Rattle.run_text.specs.Calls.{buffered, PutsText}
use Rattle.run_text.proofs.EventLines.{line_at}
use Rattle.run_text.proofs.Pieces.{number_then, number_stop, numbers_end}
use Rattle.run_text.proofs.lines.put_events.Goals as goal

pub loop-i-init : goal.loop-i-init
loop-i-init g c = λ answer sink' kept' all. all

pub returns-in_err-put : goal.returns-in_err-put
returns-in_err-put g c =
    let p = c.args.plan.now in
    let r = c.args.settled.now in
    let lt : c.loop-i.i < c.args.end = c.loop-i-test.true in
    let put : PutsText g.K.Sink.written g.K.Sink.faults c.whole_line.new.line (Err c.in_err-put.field-0.0) (buffered c.loop-i.sink c.loop-i.out) (buffered c.put.new.sink c.put.new.self) = search rules in
    c.loop-i.invariant _ _ _ (number_stop (line_at p r) c.args.end c.loop-i.i c.from_residual.result lt
    (sym c.whole_line.ensures) c.from_residual.ensures.0 put)

pub loop-i-preserved : goal.loop-i-preserved
loop-i-preserved g c =
    let p = c.args.plan.now in
    let r = c.args.settled.now in
    let lt : c.loop-i.i < c.args.end = c.loop-i-test.true in
    let put : PutsText g.K.Sink.written g.K.Sink.faults c.whole_line.new.line (Ok c.in_ok-put.field-0) (buffered c.loop-i.sink c.loop-i.out) (buffered c.put.new.sink c.put.new.self) = search rules in
    λ answer sink' kept' more. c.loop-i.invariant answer sink' kept' (number_then (line_at p r) c.args.end c.loop-i.i lt
    (sym c.whole_line.ensures) put more)

pub returns : goal.returns
returns g c =
    c.loop-i.invariant _ _ _ (numbers_end (line_at c.args.plan.now c.args.settled.now) c.args.end c.loop-i.i c.loop-i.sink c.loop-i.out
    (omega (arith, c.loop-i-test.false)))
