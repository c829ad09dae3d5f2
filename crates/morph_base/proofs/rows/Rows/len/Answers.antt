use Rattle.std.proofs.Common.{length, sym, ap, ◌∙◌}
use Rattle.morph_base.proofs.RowLemmas.{count_rows}
use Rattle.morph_base.proofs.rows.Rows.len.Goals as goal

pub returns : goal.returns
returns c = c.len.ensures ∙ sym (count_rows c.self.inside.ends.items c.self.inside.items.items) ∙ ap length c.self.view_is
