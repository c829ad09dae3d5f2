use Rattle.std.proofs.Common.{subst, arith}
use Rattle.op_words.specs.Hands.{view_of}
use Rattle.op_eval.specs.Gathering.{AreNew}
use Rattle.op_eval.proofs.Beginning.{new_explored}
use Rattle.op_eval.proofs.Seating.{new_at_rest}
use Rattle.op_eval.proofs.runners.Runners.new.Goals as goal

pub returns-clause-places : goal.returns-clause-places
returns-clause-places c = record {
  none = c.seat_all.ensures.empty;
  room =
      let are = c.seat_all.ensures.new c.args.events c.in_ok-left.ensures.empty in
      omega (arith, are.len, c.seat_all.ensures.full, c.seat_all.ensures.places, c.in_ok-runners.ensures.room, c.in_ok-left.ensures.len, c.in_ok-left.ensures.room);
  all = omega (arith, c.seat_all.ensures.places, c.in_ok-left.ensures.len, c.in_ok-left.ensures.room);
}

pub returns-clause-new : goal.returns-clause-new
returns-clause-new c =
    subst (λ n. AreNew c.args.board.now (view_of c.args.root) n c.args.events c.seat_all.new.runners.items) c.in_ok-left.ensures.len
    (c.seat_all.ensures.new c.args.events c.in_ok-left.ensures.empty)

pub returns-clause-rest : goal.returns-clause-rest
returns-clause-rest c free =
    new_at_rest c.args.board.now (view_of c.args.root) c.args.workers c.args.events _ c.requires.some c.requires.tag free (returns-clause-new c)

pub returns-clause-fresh : goal.returns-clause-fresh
returns-clause-fresh c free none fits =
    new_explored c.args.board.now (view_of c.args.root) c.args.workers c.args.events _ c.requires.some c.requires.tag (returns-clause-places c) (returns-clause-new c) free none fits
