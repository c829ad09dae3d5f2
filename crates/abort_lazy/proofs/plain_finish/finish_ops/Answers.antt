use Rattle.std.proofs.Common.{◌∙◌, ap, sym, refl, subst, arith}
use Rattle.morph_base.specs.Plans.{no_event, verdict}
use Rattle.abort_lazy.specs.Finishing.{AreFinishedSoFar}
use Rattle.abort_lazy.proofs.Numbers.{read_event, reached, reached_end}
use Rattle.abort_lazy.proofs.plain_finish.finish_ops.Goals as goal

pub overflow_add-o-end : goal.overflow_add-o-end
overflow_add-o-end c =
    let small = (read_event c.args.plan.now c.args.i c.requires.plan c.requires.event c.get-event.result.now (c.get-event.ensures.at no_event)).2 in
    omega arith

pub loop-o-init : goal.loop-o-init
loop-o-init c =
    let p = c.args.plan.now in
    let first = (read_event p c.args.i c.requires.plan c.requires.event c.get-event.result.now (c.get-event.ensures.at no_event)).0 in
    record {
      finished = subst (λ n. AreFinishedSoFar p c.args.closed.now n c.args.settled.now) (sym first) c.requires.earlier;
      verdicts = refl;
    }

pub finish_op-requires : goal.finish_op-requires
finish_op-requires c =
    let p = c.args.plan.now in
    let its = reached p c.args.i c.requires.plan c.requires.event c.get-event.result.now c.loop-o.o (c.get-event.ensures.at no_event) c.loop-o.auto.o c.loop-o-test.true in
    record {
      plan = c.requires.plan;
      closed = c.requires.closed;
      op = its.2;
      verdict = c.requires.verdict ∙ ap (verdict p) (sym its.3);
      earlier = c.loop-o.invariant.finished;
    }

pub loop-o-preserved : goal.loop-o-preserved
loop-o-preserved c = record {
  finished = c.finish_op.ensures.finished;
  verdicts = c.finish_op.ensures.verdicts ∙ c.loop-o.invariant.verdicts;
}

pub returns : goal.returns
returns c =
    let p = c.args.plan.now in
    let end = reached_end p c.args.i c.requires.plan c.requires.event c.get-event.result.now c.loop-o.o (c.get-event.ensures.at no_event) c.loop-o.auto.o-end c.loop-o-test.false in
    record {
      finished = subst (λ n. AreFinishedSoFar p c.args.closed.now n c.loop-o.settled) end c.loop-o.invariant.finished;
      verdicts = c.loop-o.invariant.verdicts;
    }
