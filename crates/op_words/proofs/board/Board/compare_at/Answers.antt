use Rattle.std.proofs.Common.{true, subst}
use Rattle.op_words.specs.Grounds.{SourceDoes}
use Rattle.op_words.proofs.Comparing.{loaded_as, equal_here, differs_here}
use Rattle.op_words.proofs.board.Board.compare_at.Goals as goal
use Rattle.op_words.specs.Hands.{call_on}

pub returns-then-kept-settled : goal.returns-then-kept-settled
returns-then-kept-settled c =
    equal_here _ _ _ _ _ _ _ _ _ c.recall-kept.ensures c.requires.in_places
    (loaded_as _ _ _ _ _ _ _ (subst (SourceDoes (call_on c.args.self.now c.args.hand.now c.source_value.new.hand) c.args.plan.now c.args.op c.args.j true) c.in-Ok.is c.source_value.ensures)) c.if-kept-settled.true

pub returns-else-kept-settled : goal.returns-else-kept-settled
returns-else-kept-settled c =
    differs_here _ _ _ _ _ _ _ _ _ c.recall-kept.ensures c.requires.in_places
    (loaded_as _ _ _ _ _ _ _ (subst (SourceDoes (call_on c.args.self.now c.args.hand.now c.source_value.new.hand) c.args.plan.now c.args.op c.args.j true) c.in-Ok.is c.source_value.ensures)) c.if-kept-settled.false
