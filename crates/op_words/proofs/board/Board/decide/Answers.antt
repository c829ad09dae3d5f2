use Rattle.std.proofs.Common.{◌≡◌, ◌+◌, Bool, true, false, sym, subst}
use Rattle.op_words.specs.Judging.{DecideDoes, MaySayOf, decided_as}
use Rattle.op_words.specs.Hands.{cap_of, view_of, call_on}
use Rattle.op_words.specs.Comparing.{HasFoundGrounds}
use Rattle.op_words.specs.Stepping.{Learned}
use Rattle.morph_base.specs.Plans.{event_at}
use Rattle.op_words.proofs.Weighing.{decided_before, decided_now, may_say, undecided}
use Rattle.op_words.proofs.board.Board.decide.Goals as goal
use Rattle.op_words.proofs.board.Board.decide.Goals.{in-Committed, in-Aborted}

pub returns-in-Some-clause-answer : goal.returns-in-Some-clause-answer
returns-in-Some-clause-answer c =
    subst (DecideDoes c.args.plan.now (cap_of c.args.self.now) c.args.event (view_of c.args.hand.now) (view_of c.learn.new.hand)) (sym c.of.ensures)
    (decided_before _ _ _ _ c.args.hand.now c.learn.new.hand c.in-Some.committed c.requires.plan c.requires.hand c.requires.free (subst (Learned (call_on c.args.self.now c.args.hand.now c.learn.new.hand) c.args.event) c.in-Some.is c.learn.ensures))

pub returns-in-NotYet-clause-answer : goal.returns-in-NotYet-clause-answer
returns-in-NotYet-clause-answer c =
    let b = c.args.self.now in let p = c.args.plan.now in let i = c.args.event in
    undecided b p i c.requires.plan c.args.hand.now c.learn.new.hand (subst (Learned (call_on b c.args.hand.now c.learn.new.hand) i) c.in_default.is c.learn.ensures) c.requires.hand c.grounds.new.hand c.in-NotYet.op c.in-NotYet.word
    (subst (HasFoundGrounds (call_on b c.learn.new.hand c.grounds.new.hand) p i ((event_at p i).first + (event_at p i).count)) c.in-NotYet.is c.grounds.ensures)

pub returns-clause-answer : goal.returns-clause-answer
returns-clause-answer c =
    let b = c.args.self.now in let p = c.args.plan.now in let i = c.args.event in
    subst (DecideDoes p (cap_of b) i (view_of c.args.hand.now) (view_of c.conclude.new.hand)) (sym c.of-2.ensures)
    (decided_now b p i c.requires.plan c.args.hand.now c.learn.new.hand (subst (Learned (call_on b c.args.hand.now c.learn.new.hand) i) c.in_default.is c.learn.ensures) c.requires.hand c.grounds.new.hand _ c.conclude.new.hand _ c.grounds.result c.grounds.ensures c.conclude.ensures.answer)

pub conclude-requires-clause-grounds : goal.conclude-requires-clause-grounds
conclude-requires-clause-grounds c =
    let b = c.args.self.now in let p = c.args.plan.now in let i = c.args.event in
    let says : (committed : Bool) → c.grounds.result ≡ decided_as committed → c.match-grounds.committed ≡ committed → MaySayOf p (view_of c.grounds.new.hand) i c.match-grounds.committed =
    λ committed same is. subst (MaySayOf p (view_of c.grounds.new.hand) i) (sym is) (may_say b p i c.learn.new.hand c.grounds.new.hand c.grounds.result committed same c.grounds.ensures) in
    elim c.match-grounds.branch [
      | in-Committed w ↦ says true w.in-Committed.is w.committed-is
      | in-Aborted w ↦ says false w.in-Aborted.is w.committed-is
    ]
