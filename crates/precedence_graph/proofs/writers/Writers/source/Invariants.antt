use Rattle.std.proofs.Common.{◌≡◌, ℕ, ◌+◌, ◌≤◌, length}
use Rattle.morph_base.specs.Links.{last_passing}
use Rattle.precedence_graph.specs.Entries.{place_of, entry_at, changes}
use Rattle.precedence_graph.proofs.writers.Writers.source.Given as goal

abbrev pub invariant-loop-end : goal.invariant-loop-end
invariant-loop-end l = record {
  low : l.end ≤ length l.self.entries.items;
  at : (o : ℕ) → l.end ≡ o + 1 → place_of (entry_at l.self.entries.items o).key (length l.self.ends.items) ≡ place_of l.key (length l.self.ends.items);
  rest : last_passing (changes l.self.entries.items l.key) (length l.self.entries.items) ≡ last_passing (changes l.self.entries.items l.key) l.end;
}

abbrev pub decreases-loop-end : goal.decreases-loop-end
decreases-loop-end l = l.end
