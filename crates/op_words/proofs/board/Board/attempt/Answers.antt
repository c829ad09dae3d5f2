use Rattle.std.proofs.Common.{arith, refl, inl, inr, false}
use Rattle.std.proofs.lemmas.Bool.{false≢true}
use Rattle.std.proofs.lemmas.List.Elements.{All-nil}
use Rattle.op_words.specs.Hands.{cap_of}
use Rattle.op_words.proofs.Attempting.{usable_loaded, kept_back, attempt_ran, attempt_busy}
use Rattle.op_words.proofs.board.Board.attempt.Goals as goal

pub load_all-requires-clause-fits : goal.load_all-requires-clause-fits
load_all-requires-clause-fits c = record { first = c.requires.word.first; last = c.requires.word.last; count = omega arith; len = refl; small = All-nil _ }

pub returns-in-Some-clause-answer : goal.returns-in-Some-clause-answer
returns-in-Some-clause-answer c =
    let d = c.in-Some.ensures in
    kept_back c.args.self.now c.args.plan.now c.args.op c.args.attempt c.args.hand.now c.load_all.new.hand c.requires.may.3 d.words d.row _ d.tells.0 d.tells.1.inside
    (elim d.tells.1.cause [ inl idle ↦ idle | inr asked ↦ absurd (false≢true asked) ])

pub take_up-requires-clause-usable : goal.take_up-requires-clause-usable
take_up-requires-clause-usable c =
    let d = c.in_default.ensures in
    usable_loaded c.args.self.now c.args.plan.now (cap_of c.args.self.now) c.args.op c.args.attempt false c.args.hand.now c.load_all.new.hand d.words _ d.row
    (let below = c.requires.below in λ last. absurd (omega (arith, last, below))) d.tells.1

pub returns-in-Ok-clause-answer : goal.returns-in-Ok-clause-answer
returns-in-Ok-clause-answer c =
    let d = c.in_default.ensures in
    attempt_ran c.args.self.now c.args.plan.now c.args.op c.args.attempt c.args.hand.now c.load_all.new.hand c.requires.may.3 d.words d.row _ c.take_up.new.hand c.in-Ok.ensures.free c.in-Ok.outcome d.tells.1 c.in-Ok.ensures.answer

pub returns-in-Err-clause-answer : goal.returns-in-Err-clause-answer
returns-in-Err-clause-answer c =
    let d = c.in_default.ensures in
    attempt_busy c.args.self.now c.args.plan.now c.args.op c.args.attempt c.args.hand.now c.load_all.new.hand c.requires.may.3 d.words d.row _ c.take_up.new.hand c.in-Err.ensures.free c.in-Err.word c.in-Err.ensures.answer
