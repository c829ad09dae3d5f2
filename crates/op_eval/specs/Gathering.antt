-- The runners of a board: how they begin, and what the root has once they are gathered
use Rattle.std.specs.Prelude.{◌≡◌, ℕ, ◌+◌, ◌-◌, ◌<◌, ◌≤◌, List, [], ◌∷◌, None, All, length, slice_index_or}
use Rattle.morph_base.specs.Limits.{most_workers}
use Rattle.op_words.specs.declared.board.Board.{Board}
use Rattle.op_words.specs.declared.trail.View.{View}
use Rattle.op_words.specs.Hands.{IsHandOf}
use Rattle.op_words.specs.Views.{child, merged}
use Rattle.op_eval.specs.declared.runner.Runner.{Runner}
use Rattle.op_eval.specs.declared.runners.Runners.{Runners}
use Rattle.op_eval.specs.Running.{hand_view, no_answers}

-- The runners that are there, worker 1 first
abbrev pub runners_of : Runners → List Runner
runners_of rs = rs.runners.items

-- How many more runners can be added
abbrev pub spare : Runners → ℕ
spare rs = rs.runners.room

-- The list of what is left has a place for each runner and for each worker that there can be, and nothing in it yet
pub record HasPlaces (rs : Runners) : Type 0 where
  pub none : rs.left.items ≡ []
  pub room : length rs.runners.items + rs.runners.room ≤ rs.left.room
  pub all : most_workers ≤ rs.left.room

-- The view of a root that made k more hands
abbrev pub raised : ℕ → View → View
raised k v = record v { made = v.made + k }

-- The runner was asked nothing yet, and has room for what this many events leave
pub record HasBegun (events : ℕ) (r : Runner) : Type 0 where
  pub answers : r.answers ≡ no_answers
  pub kept : r.kept.items ≡ []
  pub room : events ≤ r.kept.room

-- Runner 1 has the root, whose view was v, and each other runner has a hand that the root made, one after the other
pub record AreNew (b : Board) (v : View) (workers events : ℕ) (rs : List Runner) : Type 0 where
  pub len : length rs ≡ workers
  pub hands : All (λ r. IsHandOf b r.hand) rs
  pub begun : All (HasBegun events) rs
  pub root : (d : Runner) → hand_view (slice_index_or rs 0 d) ≡ raised (workers - 1) v
  pub others : (k : ℕ) (d : Runner) → 0 < k → k < workers → hand_view (slice_index_or rs k d) ≡ child (raised (k - 1) v)

-- The hands of the runners can be joined: they are of the board and hold nothing, and the first is the root
pub record AreAtRest (b : Board) (rs : List Runner) : Type 0 where
  pub some : 0 < length rs
  pub hands : All (λ r. IsHandOf b r.hand) rs
  pub free : All (λ r. (hand_view r).claim ≡ None) rs
  pub root : (d : Runner) → (hand_view (slice_index_or rs 0 d)).tag ≡ 1

-- The root's view after the hands with these views were joined into it, one after the other
unfoldable pub gathered : View → List View → View
gathered v [] = v
gathered v (w ∷ ws) = gathered (merged v w) ws
