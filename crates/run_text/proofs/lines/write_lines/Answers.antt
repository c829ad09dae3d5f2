use Rattle.std.proofs.Common.{◌+◌, ◌/◌, arith}
use Rattle.run_text.specs.Text.{lines_between}
use Rattle.run_text.proofs.EventLines.{all_lines, all_split}
use Rattle.run_text.proofs.Pieces.{write_as, write_then, write_stop}
use Rattle.run_text.proofs.lines.write_lines.Goals as goal

pub returns-then-threads-lt2-clause-text : goal.returns-then-threads-lt2-clause-text
returns-then-threads-lt2-clause-text g c =
    write_as (all_lines c.args.plan.now c.args.settled.now c.len-end.result c.len-end.ensures) c.write_between.ensures.text

pub returns-in_err-write_text-clause-text : goal.returns-in_err-write_text-clause-text
returns-in_err-write_text-clause-text g c =
    let p = c.args.plan.now in
    let r = c.args.settled.now in
    let end = c.len-end.result in
    let middle = end / 2 + end / 32 in
    write_as (all_split p r middle end (omega arith) c.len-end.ensures)
    (write_stop {front = lines_between p r 0 middle} c.from_residual.result (lines_between p r middle end) c.from_residual.ensures.0 c.in_err-write_text.ensures.text)

pub returns-clause-text : goal.returns-clause-text
returns-clause-text g c =
    let p = c.args.plan.now in
    let r = c.args.settled.now in
    let end = c.len-end.result in
    let middle = end / 2 + end / 32 in
    write_as (all_split p r middle end (omega arith) c.len-end.ensures)
    (write_then {front = lines_between p r 0 middle} {back = lines_between p r middle end} c.in_ok-write_text.ensures.text c.write_text-2.ensures.text)
