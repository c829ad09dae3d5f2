use Rattle.std.proofs.Common.{◌≡◌, ◌∙◌, Bool, Some, sym, subst, inl}
use Rattle.morph_base.specs.Plans.{event_of}
use Rattle.op_words.specs.declared.trail.View.{View}
use Rattle.op_words.specs.Hands.{view_of, call_on}
use Rattle.op_words.specs.Views.{IsDecisionSeen}
use Rattle.op_words.specs.Stepping.{Learned}
use Rattle.op_words.proofs.Sealing.{closed_cases, stopped_here, opened_first, opened_then, last_then, known_then, right_then}
use Rattle.op_words.proofs.board.Board.settle.Goals as goal

pub returns-then-not-is_open-clause-answer : goal.returns-then-not-is_open-clause-answer
returns-then-not-is_open-clause-answer c =
    stopped_here c.args.self.now c.args.plan.now c.args.op (view_of c.args.hand.now) c.look-word.new.hand c.look-word.result
    (opened_first c.args.self.now c.args.plan.now c.args.op c.args.hand.now c.look-word.new.hand c.look-word.result c.requires.may.3 c.look-word.ensures)
    (inl (closed_cases c.look-word.result.state (sym c.is_open.ensures ∙ c.if-not-is_open.true)))

pub decision-requires-clause-decided : goal.decision-requires-clause-decided
decision-requires-clause-decided c =
    let event : c.event.result ≡ event_of c.args.plan.now c.args.op = c.event.ensures in (
      c.requires.decided.0,
      subst (λ (v : View). IsDecisionSeen v c.event.result c.requires.decided.0) (sym c.look-word.ensures.view)
          (subst (λ n. IsDecisionSeen (view_of c.args.hand.now) n c.requires.decided.0) (sym event) c.requires.decided.1),
    )

pub settle_committed-requires-clause-loaded : goal.settle_committed-requires-clause-loaded
settle_committed-requires-clause-loaded c = last_then c.args.self.now c.args.plan.now c.args.op _ _ _ c.requires.may.3 c.look-word.ensures _ _ _ c.decision.ensures

pub settle_committed-requires-clause-decided : goal.settle_committed-requires-clause-decided
settle_committed-requires-clause-decided c =
    known_then c.args.self.now c.args.plan.now c.args.op _ _ _ c.requires.may.3 c.look-word.ensures _ _ _
    (subst (λ (d : Bool). Learned (call_on c.args.self.now c.look-word.new.hand c.decision.new.hand) c.event.result (Some d)) c.if-decision.true c.decision.ensures) (c.event.ensures)

pub settle_committed-requires-clause-commits : goal.settle_committed-requires-clause-commits
settle_committed-requires-clause-commits c =
    right_then c.args.self.now c.args.plan.now c.args.op _ _ _ c.requires.may.3 c.look-word.ensures _ _ _
    (subst (λ (d : Bool). Learned (call_on c.args.self.now c.look-word.new.hand c.decision.new.hand) c.event.result (Some d)) c.if-decision.true c.decision.ensures) (c.event.ensures) c.requires.may.1

pub settle_aborted-requires-clause-loaded : goal.settle_aborted-requires-clause-loaded
settle_aborted-requires-clause-loaded c = last_then c.args.self.now c.args.plan.now c.args.op _ _ _ c.requires.may.3 c.look-word.ensures _ _ _ c.decision.ensures

pub settle_aborted-requires-clause-decided : goal.settle_aborted-requires-clause-decided
settle_aborted-requires-clause-decided c =
    known_then c.args.self.now c.args.plan.now c.args.op _ _ _ c.requires.may.3 c.look-word.ensures _ _ _
    (subst (λ (d : Bool). Learned (call_on c.args.self.now c.look-word.new.hand c.decision.new.hand) c.event.result (Some d)) c.if-decision.false c.decision.ensures) (c.event.ensures)

pub returns-then-decision-clause-answer : goal.returns-then-decision-clause-answer
returns-then-decision-clause-answer c = c.settle_committed.ensures.answer (view_of c.args.hand.now) (opened_then c.args.self.now c.args.plan.now c.args.op _ _ _ c.requires.may.3 c.look-word.ensures _ _ _ c.decision.ensures)

pub returns-else-decision-clause-answer : goal.returns-else-decision-clause-answer
returns-else-decision-clause-answer c = c.settle_aborted.ensures.answer (view_of c.args.hand.now) (opened_then c.args.self.now c.args.plan.now c.args.op _ _ _ c.requires.may.3 c.look-word.ensures _ _ _ c.decision.ensures)
