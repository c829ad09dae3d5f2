use Rattle.std.proofs.Common.{ℕ, []}
use Rattle.op_words.specs.Values.{IsKeptUpTo}
use Rattle.op_words.specs.Hands.{call_on, view_of, fetched_of}
use Rattle.op_words.specs.Views.{Holds}
use Rattle.op_words.proofs.board.Board.keep_all.Given as goal

abbrev pub invariant-loop-j : goal.invariant-loop-j
invariant-loop-j l = (a : ℕ) → Holds (view_of l.initial.hand) l.op a [] → IsKeptUpTo (call_on l.self l.initial.hand l.hand) l.op a l.j (fetched_of l.found)
