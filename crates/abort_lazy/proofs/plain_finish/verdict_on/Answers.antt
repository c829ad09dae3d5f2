use Rattle.std.proofs.Common.{◌∙◌, sym}
use Rattle.abort_lazy.proofs.Completing.{decided_right}
use Rattle.abort_lazy.proofs.plain_finish.verdict_on.Goals as goal

pub returns-in-Some : goal.returns-in-Some
returns-in-Some c =
    let board = c.requires.closed in
    let there = c.decision.ensures c.args.plan.now board.0 board.1 board.2 board.3 c.requires.event in
    decided_right c.args.plan.now board.0 board.1 board.2 c.args.closed.now board.3 c.args.i c.in-Some.committed (sym there ∙ c.in-Some.is)
