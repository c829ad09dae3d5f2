use Rattle.std.proofs.Common.{◌≡◌, slice_index}
use Rattle.morph_base.specs.States.{overwritten}
use Rattle.morph_base.specs.Flat.{contents}
use Rattle.morph_base.specs.Plans.{target}
use Rattle.version_table.proofs.state.State.apply.Given as goal

abbrev pub invariant-loop-o : goal.invariant-loop-o
invariant-loop-o l = record {
  state : contents l.self-inside.values ≡ overwritten (target l.plan) (slice_index l.settled.values.items) (contents l.fn.self) l.o;
  layout : l.self-inside.values.layout ≡ l.fn.self.layout;
}
