use Rattle.std.proofs.Common.{sym, subst}
use Rattle.morph_base.specs.declared.plan.Plan.{Plan}
use Rattle.op_words.specs.Grounds.{HasGroundsToSpread}
use Rattle.op_words.specs.Hands.{cap_of, view_of}
use Rattle.op_words.proofs.Retrying.{not_spread, walk_spread, record_spread, sibling_last, grounds_spread, spread_done, found_unspread}
use Rattle.op_words.proofs.board.Board.spread.Goals as goal

pub returns-then-not-may_spread-clause-answer : goal.returns-then-not-may_spread-clause-answer
returns-then-not-may_spread-clause-answer c = not_spread _ _ _ _ _ _ _ c.requires.may.3 c.look-word.ensures _ (c.may_spread.ensures.not c.if-not-may_spread.true)

pub leave_spread-requires-clause-grounds : goal.leave_spread-requires-clause-grounds
leave_spread-requires-clause-grounds c =
    let may = c.may_spread.ensures.may c.if-not-may_spread.false in
    subst (λ (p : Plan). HasGroundsToSpread p (cap_of c.args.self.now) c.args.op (view_of c.look.new.hand) c.look-word.result c.recall-kept.result) c.requires.may.1
    (grounds_spread _ _ _ _ _ _ _ _ _ _ _ _ c.requires.may.3 c.requires.sibling c.look-word.ensures c.recall-kept.ensures c.look.ensures may.0 may.1)

pub leave_spread-requires-clause-sibling : goal.leave_spread-requires-clause-sibling
leave_spread-requires-clause-sibling c = sym (sibling_last c.args.self.now c.args.plan.now (cap_of c.args.self.now) _ _ _ _ _ _ _ _ _ c.requires.may.3 c.requires.sibling c.look-word.ensures c.recall-kept.ensures c.look.ensures)

pub returns-in-None-clause-answer : goal.returns-in-None-clause-answer
returns-in-None-clause-answer c =
    let may = c.may_spread.ensures.may c.if-not-may_spread.false in let b = c.args.self.now in let p = c.args.plan.now in
    spread_done b p _ _ _ _ _ c.requires.may.3 c.look-word.ensures _
    (walk_spread b p (cap_of b) _ _ _ _ _ _ _ _ _ c.requires.may.3 c.requires.sibling c.look-word.ensures c.recall-kept.ensures c.look.ensures) _ _
    (sibling_last c.args.self.now c.args.plan.now (cap_of c.args.self.now) _ _ _ _ _ _ _ _ _ c.requires.may.3 c.requires.sibling c.look-word.ensures c.recall-kept.ensures c.look.ensures) _ may.0 may.1
    (record_spread b p (cap_of b) _ _ _ _ _ _ _ _ _ c.requires.may.3 c.requires.sibling c.look-word.ensures c.recall-kept.ensures c.look.ensures) c.in-None.ensures

pub returns-in-Some-clause-answer : goal.returns-in-Some-clause-answer
returns-in-Some-clause-answer c =
    let b = c.args.self.now in let p = c.args.plan.now in
    found_unspread b p _ _ _ _ _ c.requires.may.3 c.look-word.ensures _
    (walk_spread b p (cap_of b) _ _ _ _ _ _ _ _ _ c.requires.may.3 c.requires.sibling c.look-word.ensures c.recall-kept.ensures c.look.ensures) _ _ c.in-Some.ensures.0 c.in-Some.ensures.1
