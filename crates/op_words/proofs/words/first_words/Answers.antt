use Rattle.std.proofs.Common.{arith}
use Rattle.morph_base.proofs.NumberLaws.{op_count-small}
use Rattle.op_words.proofs.words.first_words.Goals as goal

pub overflow_add-level : goal.overflow_add-level
overflow_add-level c = let few = op_count-small c.args.plan.now c.requires.plan in omega (arith, few, c.all_places.ensures.few)

pub overflow_add-level-2 : goal.overflow_add-level-2
overflow_add-level-2 c = let few = op_count-small c.args.plan.now c.requires.plan in let e = c.requires.plan.numbering.few in omega (arith, few, e, c.all_places.ensures.few)

pub overflow_add-len : goal.overflow_add-len
overflow_add-len c = let few = op_count-small c.args.plan.now c.requires.plan in let e = c.requires.plan.numbering.few in omega (arith, few, e, c.all_places.ensures.few)

pub overflow_add-len-2 : goal.overflow_add-len-2
overflow_add-len-2 c = let few = op_count-small c.args.plan.now c.requires.plan in let e = c.requires.plan.numbering.few in omega (arith, few, e, c.all_places.ensures.few)
