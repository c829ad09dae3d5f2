use Rattle.std.proofs.Common.{◌<◌, ◌+◌, ap, arith}
use Rattle.std.proofs.lemmas.Bool.{false≢true}
use Rattle.morph_base.specs.Plans.{no_event, op_count}
use Rattle.interleaving_core.specs.Stored.{core_of}
use Rattle.interleaving_core.proofs.Places.{event_op, op_small, none_from}
use Rattle.interleaving_core.proofs.state.CoreState.one_fails.Goals as goal

pub overflow_add-planned : goal.overflow_add-planned
overflow_add-planned c =
    let inside : c.get-planned.result.now.first + c.loop-k.k < op_count c.args.plan.now =
    event_op c.args.plan.now c.args.event c.loop-k.k c.get-planned.result.now.first c.get-planned.result.now.count c.requires.plan c.requires.event
    (ap (λ e. e.first) (c.get-planned.ensures.at no_event)) (ap (λ e. e.count) (c.get-planned.ensures.at no_event)) c.loop-k-test.true in
    let small = op_small c.args.plan.now (c.get-planned.result.now.first + c.loop-k.k) c.requires.plan inside in
    omega arith

pub fails-requires-clause-op : goal.fails-requires-clause-op
fails-requires-clause-op c =
    event_op c.args.plan.now c.args.event c.loop-k.k c.get-planned.result.now.first c.get-planned.result.now.count c.requires.plan c.requires.event
    (ap (λ e. e.first) (c.get-planned.ensures.at no_event)) (ap (λ e. e.count) (c.get-planned.ensures.at no_event)) c.loop-k-test.true

pub returns : goal.returns
returns c = (
  λ is. absurd (false≢true is),
  λ one. absurd (none_from c.args.plan.now (core_of c.args.self.now) c.args.event c.get-planned.result.now.first c.get-planned.result.now.count c.loop-k.k
      (ap (λ e. e.first) (c.get-planned.ensures.at no_event)) (ap (λ e. e.count) (c.get-planned.ensures.at no_event)) c.loop-k-test.false c.loop-k.invariant one),
)
