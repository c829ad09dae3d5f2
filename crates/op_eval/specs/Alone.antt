-- What a lone root knows of the operations that it has evaluated
use Rattle.std.specs.Prelude.{◌≡◌, ℕ, ◌<◌, true, List, [], length, slice_index_or}
use Rattle.morph_base.specs.declared.plan.Plan.{Plan}
use Rattle.morph_base.specs.Plans.{op_count}
use Rattle.interleaving_core.specs.Core.{blocked, has_run}
use Rattle.op_words.specs.declared.trail.Item.{Item}
use Rattle.op_words.specs.Trails.{last_word}
use Rattle.op_words.specs.Views.{IsLone}
use Rattle.op_eval.specs.declared.runner.Runner.{Runner}
use Rattle.op_eval.specs.Running.{hand_view}

-- The last word of operation o in the trail is executed or failed, at attempt 1
abbrev pub Ran : List Item → (o : ℕ) → Type 0
Ran trail o = (has_run (last_word o (blocked 1) trail).state ≡ true) × ((last_word o (blocked 1) trail).attempt ≡ 1)

-- The last word of operation o in the trail is the first one, or the trail has none
abbrev pub NotBegun : List Item → (o : ℕ) → Type 0
NotBegun trail o = last_word o (blocked 1) trail ≡ blocked 1

-- There is one runner. It has the root, which is the only hand made and has loaded and left nothing yet
pub record IsNewRoot (rs : List Runner) : Type 0 where
  pub one : length rs ≡ 1
  pub lone : (d : Runner) → IsLone (hand_view (slice_index_or rs 0 d))
  pub fresh : (d : Runner) → (hand_view (slice_index_or rs 0 d)).trail ≡ []

-- The first runner knows each operation last as executed or failed, at attempt 1
abbrev pub HasRunAll : Plan → List Runner → Type 0
HasRunAll p rs = (d : Runner) (o : ℕ) → o < op_count p → Ran (hand_view (slice_index_or rs 0 d)).trail o
