use Rattle.morph_base.proofs.RowViewLaws.{no_rows}
use Rattle.morph_base.proofs.op_rows.OpRows.new.Goals as goal

pub returns : goal.returns
returns c = no_rows c.new.result.items c.new-2.result.items c.new-3.result.items c.new.ensures.items
