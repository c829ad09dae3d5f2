use Rattle.std.proofs.Common.{refl}
use Rattle.morph_base.proofs.RowViewLaws.{no_rows}
use Rattle.morph_base.proofs.event_ops.EventOps.new.Goals as goal

pub returns : goal.returns
returns c = no_rows _ _ _ refl
