use Rattle.std.proofs.Common.{◌≡◌, false, take}
use Rattle.std.specs.List.{list_any}
use Rattle.morph_base.specs.Graphs.{is_written_by}
use Rattle.precedence_graph.specs.Planned.{planned, sources_of}
use Rattle.precedence_graph.proofs.readers.has_source.Given as goal

-- none of the sources so far is the operation
abbrev pub invariant-sources : goal.invariant-sources
invariant-sources l = list_any (is_written_by l.s) (take l.j (sources_of (planned l.ops.items l.t))) ≡ false
