use Rattle.op_words.specs.Hands.{cap_of, fetched_of}
use Rattle.op_words.proofs.Making.{word_ready}
use Rattle.op_words.proofs.Attempting.{taken_away, holds_nothing, usable_held, holds_all, all_held, carried_out}
use Rattle.op_words.proofs.board.Board.carry_out.Goals as goal

pub hold-requires-clause-word : goal.hold-requires-clause-word
hold-requires-clause-word c = word_ready c.args.attempt c.requires.word

pub returns-in-Some-clause-answer : goal.returns-in-Some-clause-answer
returns-in-Some-clause-answer c =
    taken_away c.args.self.now c.args.plan.now (cap_of c.args.self.now) c.args.op c.args.attempt c.args.found.now c.requires.fits c.requires.all c.args.hand.now c.requires.may.3
    c.hold.new.hand c.in-Some.word c.in-Some.ensures.0 c.in-Some.ensures.1

pub keep_all-requires-clause-held : goal.keep_all-requires-clause-held
keep_all-requires-clause-held c =
    let b = c.args.self.now in let p = c.args.plan.now in let h = c.args.hand.now in let g = c.hold.new.hand in (
      c.args.attempt,
      holds_nothing b p (cap_of b) c.args.op c.args.attempt c.args.found.now c.requires.fits c.requires.all h c.requires.may.3 g c.in_default.ensures,
      usable_held b p (cap_of b) c.args.op c.args.attempt c.args.found.now c.requires.fits c.requires.all h c.requires.may.3 g c.in_default.ensures c.requires.usable,
    )

pub finish-requires-clause-may : goal.finish-requires-clause-may
finish-requires-clause-may c =
    let b = c.args.self.now in let p = c.args.plan.now in let h = c.args.hand.now in let g = c.hold.new.hand in
    ((c.keep_all.ensures c.args.attempt (holds_nothing b p (cap_of b) c.args.op c.args.attempt c.args.found.now c.requires.fits c.requires.all h c.requires.may.3 g c.in_default.ensures)).hand, c.requires.may.1, c.requires.may.2)

pub finish-requires-clause-held : goal.finish-requires-clause-held
finish-requires-clause-held c =
    let b = c.args.self.now in let p = c.args.plan.now in let h = c.args.hand.now in let g = c.hold.new.hand in
    let kept = c.keep_all.ensures c.args.attempt (holds_nothing b p (cap_of b) c.args.op c.args.attempt c.args.found.now c.requires.fits c.requires.all h c.requires.may.3 g c.in_default.ensures) in (
      c.args.attempt,
      fetched_of c.args.found.now,
      holds_all b p (cap_of b) c.args.op c.args.attempt c.args.found.now c.requires.fits c.requires.all h c.requires.may.3 g c.in_default.ensures c.keep_all.new.hand kept,
      all_held b p (cap_of b) c.args.op c.args.attempt c.args.found.now c.requires.fits c.requires.all h c.requires.may.3 g c.in_default.ensures c.keep_all.new.hand kept,
    )

pub returns-clause-free : goal.returns-clause-free
returns-clause-free c = let does = c.finish.ensures.answer in does.free

pub returns-clause-answer : goal.returns-clause-answer
returns-clause-answer c =
    let b = c.args.self.now in let p = c.args.plan.now in let h = c.args.hand.now in let g = c.hold.new.hand in
    let kept = c.keep_all.ensures c.args.attempt (holds_nothing b p (cap_of b) c.args.op c.args.attempt c.args.found.now c.requires.fits c.requires.all h c.requires.may.3 g c.in_default.ensures) in
    carried_out b p (cap_of b) c.args.op c.args.attempt c.args.found.now c.requires.fits c.requires.all h c.requires.may.3 g c.in_default.ensures c.keep_all.new.hand kept c.finish.new.hand c.finish.result c.finish.ensures.answer
