use Rattle.std.proofs.Common.{◌≡◌, ◌+◌, length, All}
use Rattle.snapshot_reader.specs.Known.{IsNew}
use Rattle.snapshot_reader.proofs.setup.fill.Given as goal

abbrev pub invariant-loop-i : goal.invariant-loop-i
invariant-loop-i l = record {
  room : l.i + l.list.room ≡ l.viewers;
  len : length l.list.items ≡ l.i;
  all : All (IsNew l.layout) l.list.items;
}
