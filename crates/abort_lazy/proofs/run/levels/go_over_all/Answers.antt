use Rattle.std.proofs.Common.{◌≡◌, ◌<◌, ◌+◌, ◌*◌, arith, length, subst, suc, ℕ}
use Rattle.worker_gate.specs.Stages.{InStages}
use Rattle.worker_gate.proofs.Stages.{stages_none, stages_more}
use Rattle.abort_lazy.specs.Runs.{WasAtLevel, to_come}
use Rattle.abort_lazy.proofs.Advancing.{settling_again}
use Rattle.abort_lazy.proofs.Staging.{level_on}
use Rattle.abort_lazy.proofs.run.levels.go_over_all.Goals as goal

pub loop-level-init : goal.loop-level-init
loop-level-init c = (stages_none _ _, c.requires.ready)

pub go_over_level-requires-clause-ready : goal.go_over_level-requires-clause-ready
go_over_level-requires-clause-ready c =
    let levels = c.args.levels.now in
    settling_again levels.board.now levels.plan.now levels.from levels.shares.parts c.loop-level.level (λ k. k < c.loop-level.level * levels.shares.parts) (to_come levels.plan.now c.loop-level.level) c.args.runner.now
    c.loop-level.runner c.loop-level.invariant.1

pub loop-level-preserved : goal.loop-level-preserved
loop-level-preserved c =
    let levels = c.args.levels.now in
    let lt : c.loop-level.level < length levels.plan.now.event_levels.items = omega (arith, c.loop-level-test.true, c.len-level-end.ensures) in
    let more : suc c.loop-level.level ≡ c.loop-level.level + 1 = omega arith in (
      subst (λ (n : ℕ). InStages (WasAtLevel levels.board.now levels.plan.now levels.from levels.shares c.args.number) n c.args.runner.now c.go_over_level.new.runner) more
          (stages_more _ _ _ _ _ c.loop-level.invariant.0 c.go_over_level.ensures),
      level_on _ _ _ levels.shares c.requires.fits c.args.number c.loop-level.level lt c.args.runner.now _ _ c.requires.ready.hand.told.noted c.loop-level.invariant.1 c.go_over_level.ensures,
    )

pub returns : goal.returns
returns c =
    let levels = c.args.levels.now in
    let end : c.loop-level.level ≡ length levels.plan.now.event_levels.items = omega (arith, c.loop-level-test.false, c.loop-level.auto, c.len-level-end.ensures) in
    subst (λ (n : ℕ). InStages (WasAtLevel levels.board.now levels.plan.now levels.from levels.shares c.args.number) n c.args.runner.now c.loop-level.runner) end c.loop-level.invariant.0
