use Rattle.morph_base.specs.Flat.{contents}
use Rattle.run_text.specs.Text.{table_lines, value_line}
use Rattle.run_text.proofs.Pieces.{Completes, from_number}
use Rattle.run_text.proofs.tables.put_table.Given as goal

abbrev pub invariant-loop-id : goal.invariant-loop-id
invariant-loop-id g l =
    Completes g.K.Sink.written g.K.Sink.faults (from_number (λ id. value_line l.name id (contents l.values (record { table = l.table; id = id }))) l.values.layout.size l.id)
    (table_lines l.name (contents l.values) l.table l.values.layout.size) l.initial.sink l.initial.out l.sink l.out
