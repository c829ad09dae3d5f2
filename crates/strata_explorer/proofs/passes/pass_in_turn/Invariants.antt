use Rattle.std.specs.Prelude.{◌≡◌, ◌≤◌, ◌-◌, All}
use Rattle.op_words.specs.Hands.{plan_of, cap_of, counters_of}
use Rattle.strata_explorer.specs.Levels.{counters_for}
use Rattle.op_eval.specs.Running.{IsFreeRunner}
use Rattle.strata_explorer.specs.Passes.{course_rules}
use Rattle.strata_explorer.proofs.Ascending.{IsClimbing}
use Rattle.strata_explorer.proofs.passes.pass_in_turn.Given as goal

abbrev pub invariant-loop-level : goal.invariant-loop-level
invariant-loop-level g l =
    All (IsFreeRunner l.board) l.runners
    × (plan_of l.board ≡ plan_of l.fn.board)
    × (cap_of l.board ≡ cap_of l.fn.board)
    × (counters_of l.board ≡ counters_of l.fn.board)
    × (l.passes ≤ counters_for l.course.plan.now)
    × IsClimbing (course_rules l.fn.board l.course) l.level l.passes l.fn.runners l.runners

abbrev pub decreases-loop-level : goal.decreases-loop-level
decreases-loop-level g l = l.most - l.passes
