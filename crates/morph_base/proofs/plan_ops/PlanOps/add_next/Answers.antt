use Rattle.morph_base.proofs.OpViewLaws.{next_has_room, added_items, added_coming, added_are}
use Rattle.morph_base.proofs.plan_ops.PlanOps.add_next.Goals as goal

pub add-requires : goal.add-requires
add-requires c = next_has_room c.self.inside c.args.self.now c.self.view_is c.self.invariant c.requires

pub returns-clause-items : goal.returns-clause-items
returns-clause-items c =
    added_items c.self.inside c.args.self.now c.self.view_is c.self.invariant c.args.event c.requires c.add.new.self
    c.add.ensures.items c.add.ensures.room

pub returns-clause-coming : goal.returns-clause-coming
returns-clause-coming c =
    added_coming c.self.inside c.args.self.now c.self.view_is c.self.invariant c.args.event c.requires c.add.new.self
    c.add.ensures.items c.add.ensures.room

pub invariant_of-self : goal.invariant_of-self
invariant_of-self c =
    added_are c.self.inside c.args.self.now c.self.view_is c.self.invariant c.args.event c.requires c.add.new.self
    c.add.ensures.items c.add.ensures.room
