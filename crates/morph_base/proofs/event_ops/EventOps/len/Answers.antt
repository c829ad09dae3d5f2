use Rattle.std.proofs.Common.{sym}
use Rattle.morph_base.proofs.RowEventLaws.{event_count}
use Rattle.morph_base.proofs.event_ops.EventOps.len.Goals as goal

pub returns : goal.returns
returns c = sym (event_count c.self.inside c.self.invariant c.args.self.now c.self.view_is)
