use Rattle.std.proofs.Common.{ℕ, ◌<◌, List, ap, sym, arith}
use Rattle.morph_base.specs.declared.key.Layout.{Layout}
use Rattle.morph_base.specs.States.{State}
use Rattle.morph_base.specs.Flat.{contents}
use Rattle.run_text.specs.Text.{value_line}
use Rattle.run_text.proofs.Pieces.{number_then, number_stop, numbers_end}
use Rattle.run_text.proofs.tables.put_table.Goals as goal

abbrev at_id : List ℕ → State → ℕ → ℕ → List ℕ
at_id name s table id = value_line name id (s (record { table = table; id = id }))

pub returns-in_err-put_value : goal.returns-in_err-put_value
returns-in_err-put_value g c =
    let n = c.args.values.now.layout.size in
    let lt : c.loop-id.id < n = omega (arith, ap (λ (l : Layout). l.size) c.layout-id-end.ensures.layout) in
    c.loop-id.invariant _ _ _ (number_stop (at_id c.args.name.now (contents c.args.values.now) c.args.table) n c.loop-id.id c.from_residual.result lt
    (ap (value_line c.args.name.now c.loop-id.id) (sym c.get-value.ensures.value)) c.from_residual.ensures.0 c.in_err-put_value.ensures)

pub loop-id-preserved : goal.loop-id-preserved
loop-id-preserved g c =
    let n = c.args.values.now.layout.size in
    let lt : c.loop-id.id < n = omega (arith, ap (λ (l : Layout). l.size) c.layout-id-end.ensures.layout) in
    λ answer sink' kept' more. c.loop-id.invariant answer sink' kept' (number_then (at_id c.args.name.now (contents c.args.values.now) c.args.table) n c.loop-id.id lt
    (ap (value_line c.args.name.now c.loop-id.id) (sym c.get-value.ensures.value)) c.in_ok-put_value.ensures more)

pub returns : goal.returns
returns g c =
    c.loop-id.invariant _ _ _ (numbers_end (at_id c.args.name.now (contents c.args.values.now) c.args.table) c.args.values.now.layout.size c.loop-id.id c.loop-id.sink c.loop-id.out
    (omega (arith, ap (λ (l : Layout). l.size) c.layout-id-end.ensures.layout)))
