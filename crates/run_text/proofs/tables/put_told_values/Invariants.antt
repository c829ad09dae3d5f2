use Rattle.morph_base.specs.Flat.{contents}
use Rattle.run_text.specs.Text.{told_table, told_values}
use Rattle.run_text.proofs.Pieces.{Completes, from_number}
use Rattle.run_text.proofs.tables.put_told_values.Given as goal

abbrev pub invariant-loop-table : goal.invariant-loop-table
invariant-loop-table g l =
    Completes g.K.Sink.written g.K.Sink.faults (from_number (λ table. told_table l.report (g.A.EventApp.name_of l.app table) (contents l.values) table l.values.layout.size) l.values.layout.tables l.table)
    (told_values l.report l.values.layout (g.A.EventApp.name_of l.app) (contents l.values)) l.initial.sink l.initial.out l.sink l.out
