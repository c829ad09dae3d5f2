use Rattle.std.proofs.Common.{◌≡◌, ℕ, ◌<◌, length, filter}
use Rattle.std.specs.Prelude.{All}
use Rattle.morph_base.specs.Readers.{below, reads_among}
use Rattle.precedence_graph.specs.Links.{items_of}
use Rattle.precedence_graph.proofs.readers.read_links.Given as goal

abbrev pub invariant-loop-t : goal.invariant-loop-t
invariant-loop-t l = record {
  items : (o : ℕ) → items_of l.links.items o ≡ filter (reads_among l.ops.items o) (below l.t);
  groups : All (λ link. link.group < length l.ops.items) l.links.items;
}
