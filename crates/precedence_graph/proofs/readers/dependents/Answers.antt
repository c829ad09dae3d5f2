use Rattle.std.proofs.Common.{◌*◌, ◌≤◌, arith}
use Rattle.morph_base.specs.declared.limits.TheConstants.{EVENT_OPS, EVENTS}
use Rattle.morph_base.specs.Plans.{op_count}
use Rattle.morph_base.proofs.NumberLaws.{op_count-small}
use Rattle.precedence_graph.proofs.SoundLemmas.{all_sound}
use Rattle.precedence_graph.proofs.readers.dependents.Goals as goal

pub read_links-requires-clause-ready : goal.read_links-requires-clause-ready
read_links-requires-clause-ready c = all_sound c.args.plan.now c.requires.valid

pub read_links-requires-clause-few : goal.read_links-requires-clause-few
read_links-requires-clause-few c =
    let few : op_count c.args.plan.now ≤ EVENT_OPS * EVENTS = op_count-small c.args.plan.now c.requires.valid.plan in
    omega arith
