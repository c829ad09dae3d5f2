use Rattle.std.proofs.Common.{nat_le, count_by}
use Rattle.morph_base.specs.Flat.{contents}
use Rattle.version_table.proofs.Versions.{IsVersion}
use Rattle.version_table.proofs.state.State.version.Given as goal

abbrev pub invariant-loop-o : goal.invariant-loop-o
invariant-loop-o l = IsVersion l.plan (contents l.self) (count_by (λ e. nat_le e.ts l.ts) l.plan.events.items) l.key l.o l.value
