use Rattle.std.proofs.Common.{sym, ◌∙◌, arith}
use Rattle.morph_base.proofs.RowViewLaws.{keys_are}
use Rattle.morph_base.proofs.op_rows.OpRows.key_count.Goals as goal

pub returns-clause-count : goal.returns-clause-count
returns-clause-count c =
    let s = c.self.inside in
    c.len.ensures ∙ sym (keys_are s.heads.items s.keys.items s.limits.items c.args.self.now c.self.view_is
    c.self.invariant.rows)

pub returns-clause-few : goal.returns-clause-few
returns-clause-few c = omega (arith, c.len.ensures, c.self.invariant.fits)
