use Rattle.std.proofs.Common.{◌≡◌, ℕ, ◌<◌, List, ap, sym, arith}
use Rattle.morph_base.specs.States.{State}
use Rattle.morph_base.specs.Flat.{contents}
use Rattle.run_text.specs.declared.report.Report.{Report}
use Rattle.run_text.specs.Text.{told_table}
use Rattle.run_text.proofs.Pieces.{number_then, number_stop, numbers_end}
use Rattle.run_text.proofs.tables.put_told_values.Goals as goal

abbrev at_table : Report → (ℕ → List ℕ) → State → (size table : ℕ) → List ℕ
at_table report name s size table = told_table report (name table) s table size

-- under the name that was put
named : (report : Report) (name : ℕ → List ℕ) (s : State) (size table : ℕ) (put : List ℕ) → put ≡ name table → at_table report name s size table ≡ told_table report put s table size
named report name s size table put is = ap (λ l. told_table report l s table size) (sym is)

pub returns-in_err-put_told_table : goal.returns-in_err-put_told_table
returns-in_err-put_told_table g c =
    let name = g.A.EventApp.name_of c.args.app.now in
    let s = contents c.args.values.now in
    let size = c.args.values.now.layout.size in
    let n = c.args.values.now.layout.tables in
    let lt : c.loop-table.table < n = omega (arith, c.tables-table-end.ensures) in
    c.loop-table.invariant _ _ _ (number_stop (at_table c.args.report name s size) n c.loop-table.table c.from_residual.result lt
    (named c.args.report name s size c.loop-table.table _ c.table_name-name.ensures.name) c.from_residual.ensures.0 c.in_err-put_told_table.ensures)

pub loop-table-preserved : goal.loop-table-preserved
loop-table-preserved g c =
    let name = g.A.EventApp.name_of c.args.app.now in
    let s = contents c.args.values.now in
    let size = c.args.values.now.layout.size in
    let n = c.args.values.now.layout.tables in
    let lt : c.loop-table.table < n = omega (arith, c.tables-table-end.ensures) in
    λ answer sink' kept' more. c.loop-table.invariant answer sink' kept' (number_then (at_table c.args.report name s size) n c.loop-table.table lt
    (named c.args.report name s size c.loop-table.table _ c.table_name-name.ensures.name) c.in_ok-put_told_table.ensures more)

pub returns : goal.returns
returns g c =
    c.loop-table.invariant _ _ _ (numbers_end (at_table c.args.report (g.A.EventApp.name_of c.args.app.now) (contents c.args.values.now) c.args.values.now.layout.size) c.args.values.now.layout.tables
    c.loop-table.table c.loop-table.sink c.loop-table.out (omega (arith, c.tables-table-end.ensures)))
