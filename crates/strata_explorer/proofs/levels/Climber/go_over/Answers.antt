use Rattle.std.proofs.Common.{ℕ, sym, subst, add-one}
use Rattle.abort_eager.specs.Grounds.{ground_rules}
use Rattle.worker_gate.proofs.Stages.{stages_none, stages_more}
use Rattle.strata_explorer.specs.Parts.{DoesLevel, GoesOver}
use Rattle.strata_explorer.proofs.Going.{level_unused}
use Rattle.strata_explorer.proofs.levels.Climber.go_over.Goals as goal

pub loop-level-init : goal.loop-level-init
loop-level-init g c = (c.requires.seated, stages_none _ _, λ k _. c.requires.unused k)

pub loop-level-preserved : goal.loop-level-preserved
loop-level-preserved g c =
    let s = c.args.self.now in
    let rules = ground_rules s.ground.now in
    let level : ℕ = c.loop-level.level in (
      c.do_level.ensures.seated,
      subst (λ n. GoesOver rules s.shares s.number n c.args.runner.now c.do_level.new.runner) (sym (add-one level))
          (stages_more (DoesLevel rules s.shares s.number) level c.args.runner.now c.loop-level.runner c.do_level.new.runner c.loop-level.invariant.1 c.do_level.ensures.level),
      level_unused rules s.shares c.requires.shares s.number level c.loop-level.runner c.do_level.new.runner c.loop-level.invariant.2 c.do_level.ensures.level,
    )
