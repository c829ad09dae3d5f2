use Rattle.morph_base.proofs.RowViewLaws.{no_rows}
use Rattle.morph_base.proofs.op_rows.OpRows.with_room.Goals as goal

pub returns : goal.returns
returns c =
    no_rows c.in_ok-with_room.field-0.items c.in_ok-with_room-2.field-0.items c.new.result.items
    c.in_ok-with_room.ensures.items
