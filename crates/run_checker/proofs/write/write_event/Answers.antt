use Rattle.std.proofs.Common.{length-append, length, sym, ◌∙◌, ap, arith}
use Rattle.run_checker.specs.Lines.{line_of}
use Rattle.run_checker.proofs.WrittenLines.{one_written, two_written, four_written, decide_written, one_short, two_short, four_short}
use Rattle.run_checker.proofs.write.write_event.Goals as goal

pub returns-in-Ready-clause-line : goal.returns-in-Ready-clause-line
returns-in-Ready-clause-line c = one_written 82 c.into.result c.in-Ready.op c.write_line.new.line c.write_line.ensures c.into.ensures ∙ ap line_of (sym c.in-Ready.is)

pub returns-in-Claim-clause-line : goal.returns-in-Claim-clause-line
returns-in-Claim-clause-line c =
    two_written 67 c.into-in-Claim.result c.into-in-Claim-2.result c.in-Claim.op c.in-Claim.by c.write_line-in-Claim.new.line c.write_line-in-Claim.ensures
    c.into-in-Claim.ensures c.into-in-Claim-2.ensures
    ∙ ap line_of (sym c.in-Claim.is)

pub returns-in-Fetch-clause-line : goal.returns-in-Fetch-clause-line
returns-in-Fetch-clause-line c =
    four_written 70 c.into-in-Fetch.result c.into-in-Fetch-2.result c.into-in-Fetch-3.result c.into-in-Fetch-4.result c.in-Fetch.op c.in-Fetch.j c.in-Fetch.by c.in-Fetch.value
    c.write_line-in-Fetch.new.line c.write_line-in-Fetch.ensures c.into-in-Fetch.ensures c.into-in-Fetch-2.ensures c.into-in-Fetch-3.ensures c.into-in-Fetch-4.ensures
    ∙ ap line_of (sym c.in-Fetch.is)

pub returns-in-Finish-clause-line : goal.returns-in-Finish-clause-line
returns-in-Finish-clause-line c =
    two_written 78 c.into-in-Finish.result c.into-in-Finish-2.result c.in-Finish.op c.in-Finish.by c.write_line-in-Finish.new.line c.write_line-in-Finish.ensures
    c.into-in-Finish.ensures c.into-in-Finish-2.ensures
    ∙ ap line_of (sym c.in-Finish.is)

pub returns-in-GiveBack-clause-line : goal.returns-in-GiveBack-clause-line
returns-in-GiveBack-clause-line c =
    two_written 71 c.into-in-GiveBack.result c.into-in-GiveBack-2.result c.in-GiveBack.op c.in-GiveBack.by c.write_line-in-GiveBack.new.line c.write_line-in-GiveBack.ensures
    c.into-in-GiveBack.ensures c.into-in-GiveBack-2.ensures
    ∙ ap line_of (sym c.in-GiveBack.is)

pub returns-in-Spread-clause-line : goal.returns-in-Spread-clause-line
returns-in-Spread-clause-line c =
    two_written 83 c.into-in-Spread.result c.into-in-Spread-2.result c.in-Spread.op c.in-Spread.sibling c.write_line-in-Spread.new.line c.write_line-in-Spread.ensures
    c.into-in-Spread.ensures c.into-in-Spread-2.ensures
    ∙ ap line_of (sym c.in-Spread.is)

pub returns-in-RollBack-clause-line : goal.returns-in-RollBack-clause-line
returns-in-RollBack-clause-line c =
    two_written 66 c.into-in-RollBack.result c.into-in-RollBack-2.result c.in-RollBack.op c.in-RollBack.j c.write_line-in-RollBack.new.line c.write_line-in-RollBack.ensures
    c.into-in-RollBack.ensures c.into-in-RollBack-2.ensures
    ∙ ap line_of (sym c.in-RollBack.is)

pub word-requires : goal.word-requires
word-requires c =
    let short = one_short 68 c.into-in-Decide.result c.write_line-in-Decide.new.line c.write_line-in-Decide.ensures c.into-in-Decide.type_inv in
    omega (arith, short, ap length c.decision_word.ensures)

pub returns-in-Decide-clause-line : goal.returns-in-Decide-clause-line
returns-in-Decide-clause-line c =
    decide_written c.into-in-Decide.result c.in-Decide.event c.in-Decide.committed c.write_line-in-Decide.new.line c.word.new.self c.decision_word.result.now
    c.write_line-in-Decide.ensures c.into-in-Decide.ensures c.word.ensures c.decision_word.ensures
    ∙ ap line_of (sym c.in-Decide.is)

pub returns-in-Settle-clause-line : goal.returns-in-Settle-clause-line
returns-in-Settle-clause-line c =
    two_written 84 c.into-in-Settle.result c.into-in-Settle-2.result c.in-Settle.op c.in-Settle.by c.write_line-in-Settle.new.line c.write_line-in-Settle.ensures
    c.into-in-Settle.ensures c.into-in-Settle-2.ensures
    ∙ ap line_of (sym c.in-Settle.is)

pub returns-in-Claim-clause-short : goal.returns-in-Claim-clause-short
returns-in-Claim-clause-short c =
    two_short _ c.into-in-Claim.result c.into-in-Claim-2.result c.write_line-in-Claim.new.line c.write_line-in-Claim.ensures c.into-in-Claim.type_inv c.into-in-Claim-2.type_inv

pub returns-in-Finish-clause-short : goal.returns-in-Finish-clause-short
returns-in-Finish-clause-short c =
    two_short _ c.into-in-Finish.result c.into-in-Finish-2.result c.write_line-in-Finish.new.line c.write_line-in-Finish.ensures c.into-in-Finish.type_inv c.into-in-Finish-2.type_inv

pub returns-in-GiveBack-clause-short : goal.returns-in-GiveBack-clause-short
returns-in-GiveBack-clause-short c =
    two_short _ c.into-in-GiveBack.result c.into-in-GiveBack-2.result c.write_line-in-GiveBack.new.line c.write_line-in-GiveBack.ensures c.into-in-GiveBack.type_inv c.into-in-GiveBack-2.type_inv

pub returns-in-Spread-clause-short : goal.returns-in-Spread-clause-short
returns-in-Spread-clause-short c =
    two_short _ c.into-in-Spread.result c.into-in-Spread-2.result c.write_line-in-Spread.new.line c.write_line-in-Spread.ensures c.into-in-Spread.type_inv c.into-in-Spread-2.type_inv

pub returns-in-RollBack-clause-short : goal.returns-in-RollBack-clause-short
returns-in-RollBack-clause-short c =
    two_short _ c.into-in-RollBack.result c.into-in-RollBack-2.result c.write_line-in-RollBack.new.line c.write_line-in-RollBack.ensures c.into-in-RollBack.type_inv c.into-in-RollBack-2.type_inv

pub returns-in-Settle-clause-short : goal.returns-in-Settle-clause-short
returns-in-Settle-clause-short c =
    two_short _ c.into-in-Settle.result c.into-in-Settle-2.result c.write_line-in-Settle.new.line c.write_line-in-Settle.ensures c.into-in-Settle.type_inv c.into-in-Settle-2.type_inv

pub returns-in-Ready-clause-short : goal.returns-in-Ready-clause-short
returns-in-Ready-clause-short c = let short = one_short 82 c.into.result c.write_line.new.line c.write_line.ensures c.into.type_inv in omega (arith, short)

pub returns-in-Fetch-clause-short : goal.returns-in-Fetch-clause-short
returns-in-Fetch-clause-short c =
    four_short _ c.into-in-Fetch.result c.into-in-Fetch-2.result c.into-in-Fetch-3.result c.into-in-Fetch-4.result c.write_line-in-Fetch.new.line c.write_line-in-Fetch.ensures
    c.into-in-Fetch.type_inv c.into-in-Fetch-2.type_inv c.into-in-Fetch-3.type_inv c.into-in-Fetch-4.type_inv

pub returns-in-Decide-clause-short : goal.returns-in-Decide-clause-short
returns-in-Decide-clause-short c =
    let short = one_short 68 c.into-in-Decide.result c.write_line-in-Decide.new.line c.write_line-in-Decide.ensures c.into-in-Decide.type_inv in
    omega (arith, short, ap length c.word.ensures, length-append c.write_line-in-Decide.new.line c.decision_word.result.now, ap length c.decision_word.ensures)
