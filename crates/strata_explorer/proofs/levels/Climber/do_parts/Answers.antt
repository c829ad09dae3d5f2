use Rattle.std.proofs.Common.{ℕ, sym, subst, arith, add-one}
use Rattle.abort_eager.specs.Grounds.{ground_rules}
use Rattle.worker_gate.specs.Stages.{InStages}
use Rattle.worker_gate.proofs.Stages.{stages_none, stages_more}
use Rattle.strata_explorer.specs.Parts.{DoesTurn}
use Rattle.strata_explorer.proofs.Going.{unused_first, unused_next}
use Rattle.strata_explorer.proofs.levels.Climber.do_parts.Goals as goal

pub loop-turn-init : goal.loop-turn-init
loop-turn-init g c =
    let s = c.args.self.now in
    (c.requires.seated, stages_none _ _, unused_first (ground_rules s.ground.now) s.shares c.requires.shares s.number c.args.level c.args.runner.now c.requires.unused)

pub do_part-requires-clause-unused : goal.do_part-requires-clause-unused
do_part-requires-clause-unused g c = c.loop-turn.invariant.2.coming c.loop-turn.turn (omega arith) c.loop-turn-test.true

pub loop-turn-preserved : goal.loop-turn-preserved
loop-turn-preserved g c =
    let s = c.args.self.now in
    let rules = ground_rules s.ground.now in
    let turn : ℕ = c.loop-turn.turn in (
      c.do_part.ensures.seated,
      subst (λ n. InStages (DoesTurn rules s.shares s.number c.args.level) n c.args.runner.now c.do_part.new.runner) (sym (add-one turn))
          (stages_more (DoesTurn rules s.shares s.number c.args.level) turn c.args.runner.now c.loop-turn.runner c.do_part.new.runner c.loop-turn.invariant.1 c.do_part.ensures.part),
      unused_next rules s.shares c.requires.shares s.number c.args.level turn c.loop-turn.runner c.do_part.new.runner c.loop-turn-test.true c.loop-turn.invariant.2 c.do_part.ensures.part,
    )
