use Rattle.std.specs.Prelude.{ℕ, []}
use Rattle.op_words.specs.Hands.{view_of, IsHandOf}
use Rattle.op_words.specs.Views.{Holds}
use Rattle.op_eval.specs.Evaluations.{fetching, IsFetchedUpTo}
use Rattle.op_eval.proofs.evaluation.fetch_all.Given as goal

abbrev pub invariant-loop-j : goal.invariant-loop-j
invariant-loop-j l =
    IsHandOf l.board l.hand × ((a : ℕ) → Holds (view_of l.fn.hand) l.op a [] → IsFetchedUpTo l.plan l.j (fetching l.op a (view_of l.fn.hand) (view_of l.hand)))
