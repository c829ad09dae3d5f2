use Rattle.std.proofs.Common.{◌≡◌, ◌+◌, take, drop}
use Rattle.event_reader.proofs.lines.to_front.Given as goal

-- the bytes that have been passed stand at the front, and those from the place where the next is read are as they were
abbrev pub invariant-loop-i : goal.invariant-loop-i
invariant-loop-i l = record {
  moved : take l.i l.buffer ≡ take l.i (drop l.start l.initial.buffer);
  kept : drop (l.start + l.i) l.buffer ≡ drop (l.start + l.i) l.initial.buffer;
}
