use Rattle.op_words.specs.Hands.{fetched_of}
use Rattle.op_words.proofs.Attempting.{passed_by, free_made, usable_made, went_on}
use Rattle.op_words.proofs.board.Board.take_up.Goals as goal

pub returns-in-Some-clause-answer : goal.returns-in-Some-clause-answer
returns-in-Some-clause-answer c =
    passed_by c.args.self.now c.args.plan.now c.args.op c.args.attempt c.args.hand.now c.requires.may.3 (fetched_of c.args.found.now) c.make.new.hand c.in-Some.word c.in-Some.ensures.0 c.in-Some.ensures.1

pub carry_out-requires-clause-may : goal.carry_out-requires-clause-may
carry_out-requires-clause-may c =
    (c.in_default.ensures.hand, c.requires.may.1, c.requires.may.2, free_made c.args.self.now c.args.plan.now c.args.op c.args.attempt c.args.hand.now c.requires.may.3 c.make.new.hand c.in_default.ensures)

pub carry_out-requires-clause-usable : goal.carry_out-requires-clause-usable
carry_out-requires-clause-usable c =
    usable_made c.args.self.now c.args.plan.now c.args.op c.args.attempt c.args.hand.now c.requires.may.3 c.make.new.hand c.in_default.ensures _ _ c.requires.usable

pub returns-clause-answer : goal.returns-clause-answer
returns-clause-answer c =
    went_on c.args.self.now c.args.plan.now c.args.op c.args.attempt c.args.hand.now c.requires.may.3 c.make.new.hand c.in_default.ensures (fetched_of c.args.found.now) c.carry_out.new.hand c.carry_out.result c.carry_out.ensures.answer
