use Rattle.std.proofs.Common.{sym, ◌∙◌}
use Rattle.std.proofs.lemmas.Bool.{false≢true}
use Rattle.op_words.proofs.Making.{not_ready, held_now, found_held}
use Rattle.op_words.proofs.board.Board.claim.Goals as goal

pub returns-then-not-is_in-clause-answer : goal.returns-then-not-is_in-clause-answer
returns-then-not-is_in-clause-answer c = not_ready _ _ _ _ _ _ _ c.requires.may.3 c.look-word.ensures (λ is. false≢true (sym c.if-not-is_in.true ∙ c.is_in.ensures.1 is))

pub returns-in-None-clause-answer : goal.returns-in-None-clause-answer
returns-in-None-clause-answer c = held_now _ _ _ _ _ _ _ c.requires.may.3 c.look-word.ensures (c.is_in.ensures.0 c.if-not-is_in.false) _ c.in-None.ensures

pub returns-in-Some-clause-answer : goal.returns-in-Some-clause-answer
returns-in-Some-clause-answer c = found_held _ _ _ _ _ _ _ c.requires.may.3 c.look-word.ensures (c.is_in.ensures.0 c.if-not-is_in.false) _ c.in-Some.ensures.0 c.in-Some.ensures.1
