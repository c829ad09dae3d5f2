use Rattle.std.proofs.Common.{arith}
use Rattle.op_words.proofs.Loading.{allows_tell}
use Rattle.op_words.proofs.board.Board.tell.Goals as goal

pub load-requires : goal.load-requires
load-requires c =
    let n = c.args.self.now.sized in
    (c.requires.table, omega (arith, n), allows_tell _ _ _ c.requires.live.0 c.requires.live.1 0)

pub returns-clause-same : goal.returns-clause-same
returns-clause-same c = (c.load.ensures.2 c.requires.live.0 c.requires.live.1).0

pub returns-clause-told : goal.returns-clause-told
returns-clause-told c = λ v is. (c.load.ensures.2 v is).1

pub returns-clause-lone : goal.returns-clause-lone
returns-clause-lone c = λ v is. (c.load.ensures.2 v is).2
