use Rattle.std.proofs.Common.{ap, arith}
use Rattle.op_words.specs.Plays.{Sat}
use Rattle.op_words.proofs.Loading.{allows_look}
use Rattle.op_words.proofs.board.Board.look.Goals as goal

pub load-n-requires : goal.load-n-requires
load-n-requires c =
    let h = c.requires.hand in let n = c.args.self.now.sized in let lt = c.requires.in_range in
    (h.table, omega (arith, n, lt), allows_look _ _ _ _ (ap (λ (m : Sat). m.0) h.seat) c.args.op lt)
