use Rattle.std.proofs.Common.{sym, subst}
use Rattle.op_words.specs.declared.trail.View.{View}
use Rattle.op_words.specs.Calls.{PeekDoes}
use Rattle.op_words.specs.Hands.{cap_of, view_of}
use Rattle.op_words.proofs.Adding.{peek_does}
use Rattle.op_words.proofs.board.Board.peek.Goals as goal

pub returns-clause-answer : goal.returns-clause-answer
returns-clause-answer c = λ free.
    subst (λ (u : View). PeekDoes c.args.plan.now (cap_of c.args.self.now) c.args.op (view_of c.args.hand.now) u c.look.result) (sym c.look.ensures.view) (peek_does _ _ _ _ _ _ free c.look.ensures.tells)
