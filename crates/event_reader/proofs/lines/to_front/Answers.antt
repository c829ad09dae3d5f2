use Rattle.std.proofs.Common.{arith}
use Rattle.event_reader.proofs.MovedBytes.{moved_more, kept_more}
use Rattle.event_reader.proofs.lines.to_front.Goals as goal

pub loop-i-preserved : goal.loop-i-preserved
loop-i-preserved c = record {
  moved = moved_more _ _ _ _ (omega arith) (omega arith) c.loop-i.invariant.moved c.loop-i.invariant.kept;
  kept = kept_more c.loop-i.buffer c.args.buffer.now c.args.start c.loop-i.i _ c.loop-i.invariant.kept;
}
