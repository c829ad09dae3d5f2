use Rattle.std.proofs.Common.{take, refl}
use Rattle.morph_base.proofs.RowViewLaws.{no_rows}
use Rattle.morph_base.proofs.event_ops.EventOps.clear.Goals as goal

pub returns : goal.returns
returns c =
    let s = c.self.inside in
    no_rows (take 0 s.heads) (take 0 s.keys) (take 0 s.limits) refl
