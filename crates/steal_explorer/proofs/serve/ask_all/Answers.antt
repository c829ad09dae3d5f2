use Rattle.std.proofs.Common.{sym, subst, refl, drop, ◌<◌, ◌+◌}
use Rattle.abort_eager.specs.Grounds.{ground_rules}
use Rattle.steal_explorer.proofs.Depending.{many_rows, readers_is, readers_inside}
use Rattle.steal_explorer.specs.Alone.{IsHandingAlone}
use Rattle.steal_explorer.specs.Serving.{AsksAll}
use Rattle.steal_explorer.proofs.Queueing.{next_source, rest_of, none_left}
use Rattle.steal_explorer.proofs.Going.{goes_none, goes_then}
use Rattle.steal_explorer.proofs.serve.ask_all.Goals as goal

pub row-dependents-requires : goal.row-dependents-requires
row-dependents-requires g c = subst (λ n. c.args.op < n) (sym (many_rows c.args.ground.now.plan.now _ c.requires.dependents)) c.requires.may.1

pub loop-i-init : goal.loop-i-init
loop-i-init g c = (
  c.requires.may.2,
  goes_none _ _,
  λ z. subst (λ ops. AsksAll (ground_rules c.args.ground.now) ops c.args.member.now z)
      (readers_is c.args.ground.now.plan.now _ c.requires.dependents c.args.op c.requires.may.1 _ c.row-dependents.ensures),
  subst (λ ops. IsHandingAlone c.args.ground.now.plan.now ops c.args.member.now)
      (sym (readers_is c.args.ground.now.plan.now _ c.requires.dependents c.args.op c.requires.may.1 _ c.row-dependents.ensures)),
)

pub ask_one-requires : goal.ask_one-requires
ask_one-requires g c = record {
  may = (
    c.requires.may.0,
    readers_inside c.args.ground.now.plan.now _ c.requires.dependents c.args.op c.requires.may.1 _ c.row-dependents.ensures c.loop-i.i 0 c.loop-i-test.true,
    c.loop-i.invariant.0,
  );
}

pub loop-i-preserved : goal.loop-i-preserved
loop-i-preserved g c =
    let p = c.args.ground.now.plan.now in
    let same = readers_is p _ c.requires.dependents c.args.op c.requires.may.1 _ c.row-dependents.ensures in (
      c.ask_one.ensures.can,
      goes_then _ _ _ _ c.loop-i.invariant.1 c.ask_one.ensures.goes,
      λ z asked.
          c.loop-i.invariant.2 z
          (subst (λ ops. AsksAll (ground_rules c.args.ground.now) ops c.loop-i.member z) (sym (rest_of c.row-dependents.result.now c.loop-i.i c.loop-i-test.true))
          (c.ask_one.new.member, c.ask_one.ensures.asks, asked)),
      λ begins.
          c.ask_one.ensures.alone (drop (c.loop-i.i + 1) c.row-dependents.result.now) c.args.op (next_source p c.requires.may.0.valid c.args.op _ same c.loop-i.i c.loop-i-test.true)
          (subst (λ ops. IsHandingAlone p ops c.loop-i.member) (rest_of c.row-dependents.result.now c.loop-i.i c.loop-i-test.true) (c.loop-i.invariant.3 begins)),
    )

pub returns-clause-asks : goal.returns-clause-asks
returns-clause-asks g c =
    c.loop-i.invariant.2 c.loop-i.member
    (subst (λ ops. AsksAll (ground_rules c.args.ground.now) ops c.loop-i.member c.loop-i.member) (sym (none_left c.row-dependents.result.now c.loop-i.i c.loop-i-test.false)) refl)

pub returns-clause-alone : goal.returns-clause-alone
returns-clause-alone g c =
    λ begins.
    subst (λ ops. IsHandingAlone c.args.ground.now.plan.now ops c.loop-i.member) (none_left c.row-dependents.result.now c.loop-i.i c.loop-i-test.false) (c.loop-i.invariant.3 begins)
