use Rattle.morph_base.specs.Flat.{contents}
use Rattle.morph_base.specs.OpFills.{AreFilled}
use Rattle.morph_base.proofs.plan_ops.fill_words.Given as goal

abbrev pub invariant-places : goal.invariant-places
invariant-places l = AreFilled (contents l.values) l.rows l.place l.initial.places.items l.places.items
