use Rattle.std.proofs.Common.{◌<◌, subst, sym}
use Rattle.chain_units.proofs.Partition.{one_below}
use Rattle.chain_units.proofs.alone.Alone.unit.Goals as goal

pub returns : goal.returns
returns c = one_below c.as_slice.result.now c.self.inside.ops.items c.args.op c.as_slice.ensures c.self.invariant.0 (subst (λ n. c.args.op < n) (sym c.self.view_is) c.requires)
