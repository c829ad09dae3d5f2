use Rattle.std.proofs.Common.{◌≡◌, ◌+◌, ◌-◌, ◌≤◌, ◌++◌, map, take, drop, replicate}
use Rattle.std.specs.Prelude.{count_by}
use Rattle.morph_base.specs.declared.limits.TheConstants.{READS}
use Rattle.morph_base.specs.declared.plan.Origin.TheVariants.{Base}
use Rattle.morph_base.specs.Operations.{reads}
use Rattle.morph_base.specs.Graphs.{greatest, is_written, level_of}
use Rattle.precedence_graph.specs.Planned.{planned}
use Rattle.precedence_graph.specs.Writers.{source_in, entered_level, entered_event_level}
use Rattle.precedence_graph.proofs.PlaceLemmas.{with_sources}
use Rattle.precedence_graph.proofs.sources.set_sources.Given as goal

abbrev pub invariant-loop-j : goal.invariant-loop-j
invariant-loop-j l = record {
  ops : l.ops ≡ with_sources l.fn.ops l.o
      (map (source_in l.writers) (take l.j (reads (planned l.fn.ops.items l.o).op)) ++ replicate (READS - l.j) (Base 0));
  level : l.level ≡ greatest (map (level_of (entered_level l.writers)) (map (source_in l.writers) (take l.j (reads (planned l.fn.ops.items l.o).op))));
  event_level : l.event_level ≡ greatest (map (level_of (entered_event_level l.writers)) (map (source_in l.writers) (take l.j (reads (planned l.fn.ops.items l.o).op))));
  parameters : l.parameters ≡ count_by is_written (map (source_in l.writers) (drop 1 (take l.j (reads (planned l.fn.ops.items l.o).op))));
  few : l.parameters + 1 ≤ l.j;
}
