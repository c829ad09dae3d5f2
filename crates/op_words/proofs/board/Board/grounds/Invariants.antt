use Rattle.std.specs.Prelude.{◌≡◌}
use Rattle.op_words.specs.declared.answers.Decided.TheVariants.{Aborted}
use Rattle.op_words.specs.Hands.{call_on}
use Rattle.op_words.specs.Comparing.{HasFoundGrounds}
use Rattle.op_words.proofs.board.Board.grounds.Given as goal

abbrev pub invariant-loop-op : goal.invariant-loop-op
invariant-loop-op l = HasFoundGrounds (call_on l.self l.initial.hand l.hand) l.plan l.event l.op l.grounds × (l.grounds ≡ Aborted → ⊥)
