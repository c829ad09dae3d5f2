use Rattle.std.proofs.Common.{take}
use Rattle.morph_base.proofs.RunLaws.{IsRun}
use Rattle.morph_base.proofs.batch.Batch.is_rising.Given as goal

-- the events so far have the operations so far, in time order
abbrev pub invariant-loop-head : goal.invariant-loop-head
invariant-loop-head l = IsRun l.self.ops (take l.head-index l.head-items) l.end l.latest
