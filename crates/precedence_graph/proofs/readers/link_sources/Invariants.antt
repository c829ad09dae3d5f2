use Rattle.std.proofs.Common.{◌≡◌, ℕ, ◌<◌, ◌++◌, [], ◌∷◌, cond, take}
use Rattle.std.specs.Prelude.{All}
use Rattle.std.specs.List.{list_any}
use Rattle.morph_base.specs.Graphs.{is_written_by}
use Rattle.precedence_graph.specs.Links.{items_of}
use Rattle.precedence_graph.specs.Planned.{IsAmong, planned, sources_of}
use Rattle.precedence_graph.proofs.readers.link_sources.Given as goal

abbrev pub invariant-loop-j : goal.invariant-loop-j
invariant-loop-j l = record {
  items : (o : ℕ) → items_of l.links.items o
      ≡ items_of l.initial.links.items o ++ cond (list_any (is_written_by o) (take l.j (sources_of (planned l.ops.items l.t)))) (l.t ∷ []) [];
  groups : (n : ℕ) → All (IsAmong n) (sources_of (planned l.ops.items l.t)) → All (λ link. link.group < n) l.initial.links.items → All (λ link. link.group < n) l.links.items;
}
