use Rattle.std.proofs.Common.{◌≡◌, ◌-◌, ◌<◌, [], length, get_or, take, drop, refl, sym, ap, ◌∙◌, arith}
use Rattle.morph_base.specs.Rows.{start_of, row_at}
use Rattle.morph_base.proofs.RowLemmas.{count_rows, row_is}
use Rattle.morph_base.proofs.rows.Rows.row.Goals as goal

pub start_of-start-requires : goal.start_of-start-requires
start_of-start-requires c = omega (arith, c.requires, ap length c.self.view_is, count_rows c.self.inside.ends.items c.self.inside.items.items)

pub get-end-requires : goal.get-end-requires
get-end-requires c = omega (arith, c.requires, ap length c.self.view_is, count_rows c.self.inside.ends.items c.self.inside.items.items)

pub returns : goal.returns
returns c =
    let ends = c.self.inside.ends.items in
    let items = c.self.inside.items.items in
    let inside : c.args.i < length ends = omega (arith, c.requires, ap length c.self.view_is, count_rows ends items) in
    let stop : c.get-end.result.now ≡ get_or ends c.args.i 0 = c.get-end.ensures.at 0 in
    let start : c.start_of-start.result ≡ start_of ends c.args.i = c.start_of-start.ensures in
    let here : take (c.get-end.result.now - c.start_of-start.result) (drop c.start_of-start.result c.as_slice.result.now) ≡ row_at ends items c.args.i
    = rw (stop, start, c.as_slice.ensures) refl in
    here ∙ sym (row_is ends items c.args.i [] inside) ∙ ap (λ rows. get_or rows c.args.i []) c.self.view_is
