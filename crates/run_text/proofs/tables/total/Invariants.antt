use Rattle.std.proofs.Common.{◌≡◌, ◌≤◌, ◌*◌, take, sum_by}
use Rattle.std.specs.List.{range_with_len}
use Rattle.morph_base.specs.declared.limits.TheConstants.{MAX}
use Rattle.morph_base.specs.Flat.{contents}
use Rattle.run_text.proofs.tables.total.Given as goal

abbrev pub invariant-loop-id : goal.invariant-loop-id
invariant-loop-id l = record {
  sum : l.total ≡ sum_by (λ id. contents l.values (record { table = l.table; id = id })) (take l.id (range_with_len 0 l.values.layout.size));
  small : l.total ≤ MAX * l.id;
}
