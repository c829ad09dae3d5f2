use Rattle.std.proofs.Common.{sym, subst, ◌∙◌}
use Rattle.op_words.specs.Views.{HasShownFailure}
use Rattle.op_eval.specs.Running.{hand_view}
use Rattle.abort_eager.specs.Grounds.{ground_rules}
use Rattle.steal_explorer.specs.Serving.{TouchesAll}
use Rattle.steal_explorer.proofs.Cascading.{touches_more, touches_fewer, touches_end}
use Rattle.steal_explorer.proofs.Going.{goes_none, goes_then}
use Rattle.steal_explorer.proofs.cascade.run_cascade.Goals as goal

pub loop-cascade-init : goal.loop-cascade-init
loop-cascade-init g c =
    let start = c.start-cascade.ensures in (
      c.requires.may.2,
      start.cascade,
      λ failed. subst (λ o. HasShownFailure (hand_view c.args.member.now.runner) o) (sym start.op) (c.requires.cause (sym start.failed ∙ failed)),
      goes_none _ _,
      λ u touches. subst (λ gs. TouchesAll (ground_rules c.args.ground.now) gs c.args.member.now u) start.targets touches,
    )

pub loop-cascade-preserved : goal.loop-cascade-preserved
loop-cascade-preserved g c =
    let next = c.touch_next.ensures in (
      next.can,
      next.cascade,
      next.cause,
      goes_then _ _ _ _ c.loop-cascade.invariant.3 next.goes,
      λ u rest.
          c.loop-cascade.invariant.4 u
          (touches_more (ground_rules c.args.ground.now) c.loop-cascade.cascade c.touch_next.new.cascade c.loop-cascade.member c.touch_next.new.member _ next.touches c.loop-cascade-test.true u rest),
    )

pub loop-cascade-smaller : goal.loop-cascade-smaller
loop-cascade-smaller g c =
    touches_fewer (ground_rules c.args.ground.now) c.loop-cascade.cascade c.touch_next.new.cascade c.loop-cascade.member c.touch_next.new.member _ c.touch_next.ensures.touches c.loop-cascade-test.true

pub returns-clause-goes : goal.returns-clause-goes
returns-clause-goes g c = goes_then _ _ _ _ c.loop-cascade.invariant.3 c.touch_next.ensures.goes

pub returns-clause-touches : goal.returns-clause-touches
returns-clause-touches g c =
    c.loop-cascade.invariant.4 _
    (touches_end (ground_rules c.args.ground.now) c.loop-cascade.cascade c.touch_next.new.cascade c.loop-cascade.member c.touch_next.new.member _ c.touch_next.ensures.touches c.loop-cascade-test.false)
