use Rattle.std.proofs.Common.{◌≡◌, ℕ, ◌+◌, ◌-◌, ◌<◌, ◌≤◌, length}
use Rattle.morph_base.specs.RowViews.{row_limits_at}
use Rattle.morph_base.proofs.op_rows.add_limits.Given as goal

abbrev pub invariant-loop-limits : goal.invariant-loop-limits
invariant-loop-limits l = record {
  short : length l.limits.items ≤ l.o;
  room : l.limits.room + length l.limits.items ≡ l.initial.limits.room + length l.initial.limits.items;
  others : (k : ℕ) → row_limits_at l.limits.items k ≡ row_limits_at l.initial.limits.items k;
}

abbrev pub decreases-loop-limits : goal.decreases-loop-limits
decreases-loop-limits l = l.o - length l.limits.items

abbrev pub invariant-loop-one : goal.invariant-loop-one
invariant-loop-one l = record {
  long : length l.limits.items ≡ l.o + l.one-index;
  room : l.limits.room + length l.limits.items ≡ l.initial.limits.room + length l.initial.limits.items;
  others : (k : ℕ) → k < l.o → row_limits_at l.limits.items k ≡ row_limits_at l.initial.limits.items k;
  own : (k : ℕ) → k < l.one-index → row_limits_at l.limits.items (l.o + k) ≡ row_limits_at l.more k;
}
