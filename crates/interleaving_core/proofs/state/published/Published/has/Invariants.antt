use Rattle.std.proofs.Common.{◌≡◌, ℕ, ◌+◌, ◌≤◌, length}
use Rattle.morph_base.specs.Links.{last_passing}
use Rattle.interleaving_core.specs.Entries.{op_in}
use Rattle.interleaving_core.proofs.Linked.{is_found}
use Rattle.interleaving_core.proofs.state.published.Published.has.Given as goal

abbrev pub invariant-loop-end : goal.invariant-loop-end
invariant-loop-end l = record {
  low : l.end ≤ length l.self.entries.items;
  at : (i : ℕ) → l.end ≡ i + 1 → op_in l.self.entries.items i ≡ l.op;
  rest : last_passing (is_found l.self.entries.items l.op l.sought) (length l.self.entries.items) ≡ last_passing (is_found l.self.entries.items l.op l.sought) l.end;
}

abbrev pub decreases-loop-end : goal.decreases-loop-end
decreases-loop-end l = l.end
