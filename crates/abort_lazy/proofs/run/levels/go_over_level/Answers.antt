use Rattle.std.proofs.Common.{◌≡◌, ◌+◌, arith, subst, suc, ℕ}
use Rattle.worker_gate.specs.Stages.{InStages}
use Rattle.worker_gate.proofs.Stages.{stages_none, stages_more}
use Rattle.abort_lazy.specs.Levels.{IsAmid}
use Rattle.abort_lazy.specs.Runs.{WasAtTurn}
use Rattle.abort_lazy.proofs.Staging.{amid_begins, can_turn, turn_on}
use Rattle.abort_lazy.proofs.run.levels.go_over_level.Goals as goal

pub loop-turn-init : goal.loop-turn-init
loop-turn-init c = (stages_none _ _, amid_begins _ _ _ c.args.levels.now.shares c.requires.fits c.args.number c.args.level c.requires.in_range c.args.runner.now c.args.runner.now c.requires.ready)

pub go_over_part-requires-clause-can : goal.go_over_part-requires-clause-can
go_over_part-requires-clause-can c =
    can_turn _ _ _ c.args.levels.now.shares c.requires.fits c.args.number c.args.level c.requires.in_range c.loop-turn.turn c.loop-turn-test.true c.args.runner.now c.loop-turn.runner c.loop-turn.invariant.1

pub loop-turn-preserved : goal.loop-turn-preserved
loop-turn-preserved c =
    let levels = c.args.levels.now in
    let more : suc c.loop-turn.turn ≡ c.loop-turn.turn + 1 = omega arith in (
      subst (λ (n : ℕ). InStages (WasAtTurn levels.board.now levels.plan.now levels.from levels.shares c.args.number c.args.level) n c.args.runner.now c.go_over_part.new.runner) more
          (stages_more _ _ _ _ _ c.loop-turn.invariant.0 c.go_over_part.ensures),
      subst (λ (n : ℕ). IsAmid levels.board.now levels.plan.now levels.from levels.shares c.args.number c.args.level n c.args.runner.now c.go_over_part.new.runner) more
          (turn_on _ _ _ levels.shares c.requires.fits c.args.number c.args.level c.requires.in_range c.loop-turn.turn c.loop-turn-test.true c.args.runner.now _ _ c.requires.ready.hand.told.noted
          c.loop-turn.invariant.1 c.go_over_part.ensures),
    )

pub returns : goal.returns
returns c =
    let levels = c.args.levels.now in
    let end : c.loop-turn.turn ≡ levels.shares.parts = omega (arith, c.loop-turn-test.false, c.loop-turn.auto) in
    subst (λ (n : ℕ). InStages (WasAtTurn levels.board.now levels.plan.now levels.from levels.shares c.args.number c.args.level) n c.args.runner.now c.loop-turn.runner) end c.loop-turn.invariant.0
