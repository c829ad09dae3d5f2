use Rattle.std.proofs.Common.{sym, subst}
use Rattle.abort_eager.specs.Grounds.{ground_rules}
use Rattle.abort_eager.proofs.Sweeping.{cause_shown}
use Rattle.steal_explorer.specs.Alone.{IsHandingAlone, HasRunOp, ServesAlone}
use Rattle.steal_explorer.specs.Serving.{readers}
use Rattle.steal_explorer.proofs.Cascading.{none_under_lazy}
use Rattle.steal_explorer.proofs.Going.{goes_none, visited, serves_first, asked_where, none_asked}
use Rattle.steal_explorer.proofs.Queueing.{tried_and_evaluated, tried_in_vain, goes_ran}
use Rattle.steal_explorer.proofs.serve.ServingWalkingMember.visit.Goals as goal

pub sweep-requires-clause-may : goal.sweep-requires-clause-may
sweep-requires-clause-may g c =
    let old = c.requires.can.1.1 in (c.requires.ground, c.requires.in_range, (c.attempt-answer.ensures.idle, record { fifo = old.fifo; part = old.part; below = old.below; handed = old.handed }))

pub sweep-requires-clause-cause : goal.sweep-requires-clause-cause
sweep-requires-clause-cause g c = cause_shown _ _ _ c.args.ground.now.abort _ _ c.attempt-answer.result c.attempt-answer.ensures.answer.does

pub returns-in-Evaluated-clause-visits : goal.returns-in-Evaluated-clause-visits
returns-in-Evaluated-clause-visits g c =
    let p = c.args.ground.now.plan.now in
    let asks = asked_where (ground_rules c.args.ground.now) c.args.op _ _ c.attempt-answer.result c.sweep.new.member c.ask_all.new.member c.in-Evaluated.is c.ask_all.ensures.asks in (
      serves_first (ground_rules c.args.ground.now) c.args.op c.args.worker.now c.attempt-answer.new.runner _ c.attempt-answer.ensures.answer c.sweep.new.member _ c.sweep.ensures.touches c.sweep.ensures.goes c.ask_all.ensures.goes asks,
      visited (ground_rules c.args.ground.now) c.args.op c.args.worker.now c.attempt-answer.new.runner _ c.attempt-answer.ensures.answer c.sweep.new.member _ c.sweep.ensures.touches c.sweep.ensures.goes c.ask_all.ensures.goes asks,
      λ lazy some is.
          let still = none_under_lazy (ground_rules c.args.ground.now) c.args.op c.attempt-answer.result _ c.sweep.new.member lazy c.sweep.ensures.touches in
          let made = tried_and_evaluated p c.requires.ground.valid _ c.args.worker.now some c.args.op c.attempt-answer.new.runner is _ _ c.in-Evaluated.ensures.answer in
          let handing = subst (IsHandingAlone p (readers p c.args.op)) (sym still) made.0 in
          record {
            handing = c.ask_all.ensures.alone handing;
            ran = λ _. goes_ran (ground_rules c.args.ground.now) c.requires.ground.valid lazy c.sweep.new.member c.ask_all.new.member c.ask_all.ensures.goes handing.lone c.args.op (subst (HasRunOp c.args.op) (sym still) made.1);
          },
    )

pub returns-in_default : goal.returns-in_default
returns-in_default g c =
    let p = c.args.ground.now.plan.now in
    let asks = none_asked (ground_rules c.args.ground.now) c.args.op c.attempt-answer.result c.sweep.new.member c.in_default.not-Evaluated in
    record {
      can = (c.requires.can.0, c.sweep.ensures.can);
      visits = (
        serves_first (ground_rules c.args.ground.now) c.args.op c.args.worker.now c.attempt-answer.new.runner _ c.attempt-answer.ensures.answer c.sweep.new.member _ c.sweep.ensures.touches c.sweep.ensures.goes (goes_none _ _) asks,
        visited (ground_rules c.args.ground.now) c.args.op c.args.worker.now c.attempt-answer.new.runner _ c.attempt-answer.ensures.answer c.sweep.new.member _ c.sweep.ensures.touches c.sweep.ensures.goes (goes_none _ _) asks,
        λ lazy some is.
            let still = none_under_lazy (ground_rules c.args.ground.now) c.args.op c.attempt-answer.result _ c.sweep.new.member lazy c.sweep.ensures.touches in
            subst (ServesAlone p c.args.op c.args.worker.now) (sym still)
            (tried_in_vain _ c.requires.ground.valid _ c.args.worker.now some c.args.op c.attempt-answer.new.runner is _ c.attempt-answer.ensures.answer c.in_default.not-Evaluated),
      );
    }
