use Rattle.std.proofs.Common.{arith}
use Rattle.std.proofs.lemmas.List.{length-set}
use Rattle.event_reader.proofs.LineKeys.{keys_more}
use Rattle.event_reader.proofs.keys.keys_of.Goals as goal

pub loop-i-preserved : goal.loop-i-preserved
loop-i-preserved g c = record {
  room = rw length-set c.loop-i.invariant.room;
  keys = keys_more c.args.table c.args.ids.now c.loop-i.keys c.loop-i.i c.key_of.result c.loop-i-test.true (omega (arith, c.loop-i.invariant.room, c.loop-i-test.true, c.requires.few))
      c.key_of.ensures c.loop-i.invariant.keys;
}
