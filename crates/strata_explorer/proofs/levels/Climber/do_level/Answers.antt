use Rattle.std.proofs.Common.{ap, ◌∙◌}
use Rattle.op_words.specs.Counting.{times}
use Rattle.op_words.specs.declared.trail.View.{View}
use Rattle.abort_eager.specs.Grounds.{ground_rules}
use Rattle.strata_explorer.proofs.Going.{level_from}
use Rattle.strata_explorer.proofs.levels.Climber.do_level.Goals as goal

pub do_parts-requires-clause-unused : goal.do_parts-requires-clause-unused
do_parts-requires-clause-unused g c = λ k above. ap (λ (v : View). times k v.places) c.look.ensures.like.view ∙ c.requires.unused k above

pub returns-clause-level : goal.returns-clause-level
returns-clause-level g c =
    let s = c.args.self.now in
    level_from (ground_rules s.ground.now) s.shares c.requires.shares s.number c.args.level c.args.runner.now c.look.new.runner c.do_parts.new.runner c.requires.unused c.look.ensures.like c.look.ensures.same c.do_parts.ensures.level
