use Rattle.std.proofs.Common.{◌≡◌, ◌≤◌, ◌*◌, take, sum_by}
use Rattle.std.specs.List.{range_with_len}
use Rattle.morph_base.specs.declared.limits.TheConstants.{MAX}
use Rattle.morph_base.specs.Flat.{state_in}
use Rattle.snapshot_reader.proofs.sum.sum.Given as goal

abbrev pub invariant-loop-id : goal.invariant-loop-id
invariant-loop-id l = record {
  sum : l.total ≡ sum_by (λ id. state_in l.balances.layout l.balances.values.items (record { table = l.table; id = id })) (take l.id (range_with_len 0 l.size));
  small : l.total ≤ MAX * l.id;
}
