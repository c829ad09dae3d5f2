-- Runners: their views, and what their answers count
use Rattle.std.specs.Prelude.{◌≡◌, ℕ, ◌+◌, ◌-◌, ◌^◌, min, None}
use Rattle.op_words.specs.declared.board.Board.{Board}
use Rattle.op_words.specs.declared.trail.View.{View}
use Rattle.op_words.specs.Hands.{view_of, IsHandOf}
use Rattle.op_eval.specs.declared.answers.Answers.{Answers}
use Rattle.op_eval.specs.declared.answers.Evaluation.{Evaluation}
use Rattle.op_eval.specs.declared.answers.Evaluation.TheVariants.{Evaluated, Blocked, Busy, Already}
use Rattle.op_eval.specs.declared.runner.Runner.{Runner}

-- The view of a runner's hand, which is what contracts see of it
abbrev pub hand_view : Runner → View
hand_view r = view_of r.hand

-- The runner can be called: its hand is one of the board's and holds nothing
pub record IsFreeRunner (b : Board) (r : Runner) : Type 0 where
  pub hand : IsHandOf b r.hand
  pub free : (hand_view r).claim ≡ None

-- The counts of a runner that was asked nothing yet
abbrev pub no_answers : Answers
no_answers = record { evaluated = 0; blocked = 0; busy = 0; already = 0 }

-- The number n + 1, or the greatest u64 if n is that
abbrev pub one_more : ℕ → ℕ
one_more n = min (n + 1) (2 ^ 64 - 1)

-- The counts after the answer: the field that has the answer's name is one more
abbrev pub counted : Evaluation → Answers → Answers
counted (Evaluated a r) n = record n { evaluated = one_more n.evaluated }
counted (Blocked s w) n = record n { blocked = one_more n.blocked }
counted (Busy w) n = record n { busy = one_more n.busy }
counted (Already w) n = record n { already = one_more n.already }
