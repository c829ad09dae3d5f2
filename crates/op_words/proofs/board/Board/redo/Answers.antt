use Rattle.std.proofs.Common.{◌∙◌, ℕ, sym, ap, subst, Some, None}
use Rattle.morph_base.specs.declared.plan.Plan.{Plan}
use Rattle.morph_base.specs.Plans.{IsPlan}
use Rattle.interleaving_core.specs.Core.{ended}
use Rattle.op_words.specs.Grounds.{HasGroundsToRoll}
use Rattle.op_words.specs.Views.{last_place}
use Rattle.op_words.specs.Hands.{cap_of, view_of, fetched_of}
use Rattle.op_words.proofs.Redoing.{gave_value, gave_nothing, value_small, kept_open, cut_first, grounds_redo, usable_rolled, cut_later, redone_good, redone_bad}
use Rattle.op_words.proofs.board.Board.redo.Goals as goal

pub returns-in-Some-clause-answer : goal.returns-in-Some-clause-answer
returns-in-Some-clause-answer c =
    let d = c.in-Some.ensures in
    kept_open c.args.self.now c.args.plan.now c.args.op c.args.word c.args.j c.args.hand.now c.load_all.new.hand c.requires.may.3 d.words d.row _ d.tells.0 d.tells.1

pub leave_blocked-requires-clause-grounds : goal.leave_blocked-requires-clause-grounds
leave_blocked-requires-clause-grounds c =
    let d = c.in_default.ensures in let b = c.args.self.now in let g = c.load_all.new.hand in
    subst (λ (q : Plan). HasGroundsToRoll q (cap_of b) c.args.op (view_of g) c.args.word (last_place 0 (view_of g).records)) c.requires.may.1
    (grounds_redo b c.args.plan.now c.args.op c.args.word c.args.j c.args.hand.now g c.requires.may.3 d.words d.row c.requires.stale (fetched_of c.load_all.new.found) d.tells.1)

pub returns-in-Some-leave_blocked-clause-answer : goal.returns-in-Some-leave_blocked-clause-answer
returns-in-Some-leave_blocked-clause-answer c =
    let d = c.in_default.ensures in
    cut_first c.args.self.now c.args.plan.now c.args.op c.args.word c.args.j c.args.hand.now c.load_all.new.hand c.requires.may.3 d.words d.row c.leave_blocked.new.hand
    c.in-Some-leave_blocked.word c.in-Some-leave_blocked.ensures.0 c.in-Some-leave_blocked.ensures.1

pub take_up-requires-clause-usable : goal.take_up-requires-clause-usable
take_up-requires-clause-usable c =
    let d = c.in_default.ensures in
    usable_rolled c.args.self.now c.args.plan.now c.args.op c.args.word c.args.j c.args.hand.now c.load_all.new.hand c.requires.may.3 d.words d.row c.requires.stale (fetched_of c.load_all.new.found) d.tells.1
    c.leave_blocked.new.hand c.in_default-leave_blocked.ensures

pub word-requires-clause-small : goal.word-requires-clause-small
word-requires-clause-small c =
    let d = c.in_default.ensures in
    let valid = subst IsPlan (sym c.requires.may.1) c.requires.may.0.valid in
    let gave = gave_value _ c.in-Ok-Executed.value (sym c.in-Ok-Executed.ensures.answer.tells.evaluated.answer ∙ c.in-Ok-Executed.field-0-is) in
    value_small c.args.plan.now c.args.op c.load_all.new.found c.in-Ok-Executed.value valid c.requires.may.2 d.fits gave

pub returns-in-Ok-Executed-clause-answer : goal.returns-in-Ok-Executed-clause-answer
returns-in-Ok-Executed-clause-answer c =
    let d = c.in_default.ensures in let does = c.in-Ok-Executed.ensures.answer in let values = fetched_of c.load_all.new.found in
    let valid = subst IsPlan (sym c.requires.may.1) c.requires.may.0.valid in
    let gave = gave_value _ c.in-Ok-Executed.value (sym does.tells.evaluated.answer ∙ c.in-Ok-Executed.field-0-is) in
    redone_good c.args.self.now c.args.plan.now c.args.op c.args.word c.args.j c.args.hand.now c.load_all.new.hand c.requires.may.3 d.words d.row c.requires.stale values d.tells.1
    c.leave_blocked.new.hand c.in_default-leave_blocked.ensures c.take_up.new.hand c.in-Ok-Executed.ensures.free _ does valid c.requires.may.2
    c.in-Ok-Executed.value c.word.result gave (c.word.ensures.word ∙ ap (λ (a : ℕ). ended a values (Some c.in-Ok-Executed.value)) d.attempt) c.word.ensures.in_range

pub returns-in-Ok-Failed-clause-answer : goal.returns-in-Ok-Failed-clause-answer
returns-in-Ok-Failed-clause-answer c =
    let d = c.in_default.ensures in let does = c.in-Ok-Failed.ensures.answer in let values = fetched_of c.load_all.new.found in
    let valid = subst IsPlan (sym c.requires.may.1) c.requires.may.0.valid in
    let gave = gave_nothing _ (sym does.tells.evaluated.answer ∙ c.in-Ok-Failed.field-0-is) in
    redone_bad c.args.self.now c.args.plan.now c.args.op c.args.word c.args.j c.args.hand.now c.load_all.new.hand c.requires.may.3 d.words d.row c.requires.stale values d.tells.1
    c.leave_blocked.new.hand c.in_default-leave_blocked.ensures c.take_up.new.hand c.in-Ok-Failed.ensures.free _ does valid c.requires.may.2
    c.word-in-Ok-Failed.result gave (c.word-in-Ok-Failed.ensures.word ∙ ap (λ (a : ℕ). ended a values None) d.attempt)

pub returns-in-Err-clause-answer : goal.returns-in-Err-clause-answer
returns-in-Err-clause-answer c =
    let d = c.in_default.ensures in
    cut_later c.args.self.now c.args.plan.now c.args.op c.args.word c.args.j c.args.hand.now c.load_all.new.hand c.requires.may.3 d.words d.row c.requires.stale (fetched_of c.load_all.new.found) d.tells.1
    c.leave_blocked.new.hand c.in_default-leave_blocked.ensures c.take_up.new.hand c.in-Err.ensures.free c.in-Err.word c.in-Err.ensures.answer
