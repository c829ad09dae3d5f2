-- Runners while a batch is explored, and what is handed on to settling
use Rattle.std.specs.Prelude.{◌≡◌, ℕ, ◌+◌, ◌≤◌, Bool, not, List, [], All, count_by}
use Rattle.morph_base.specs.declared.plan.Plan.{Plan}
use Rattle.morph_base.specs.declared.strategy.Abort.{Abort}
use Rattle.morph_base.specs.Plans.{event_count}
use Rattle.interleaving_core.specs.Counts.{evaluated}
use Rattle.op_words.specs.declared.board.Board.{Board}
use Rattle.op_words.specs.declared.trail.Item.{Item}
use Rattle.op_words.specs.declared.trail.View.{View}
use Rattle.op_words.specs.Counting.{times}
use Rattle.op_words.specs.Hands.{plan_of, cap_of}
use Rattle.op_eval.specs.declared.answers.Answers.{Answers}
use Rattle.op_eval.specs.declared.explored.Explored.{Explored}
use Rattle.op_eval.specs.declared.explored.RunEnd.{RunEnd}
use Rattle.op_eval.specs.declared.runner.Runner.{Runner}
use Rattle.op_eval.specs.declared.runners.Runners.{Runners}
use Rattle.op_eval.specs.Running.{hand_view}
use Rattle.op_eval.specs.Gathering.{runners_of, HasPlaces, AreAtRest}

-- What a run goes by: a plan and its units, how many attempts may read guesses, and when aborts are dealt with
pub record RunRules : Type 0 where
  pub plan : Plan
  pub units : List (List ℕ)
  pub cap : ℕ
  pub abort : Abort

-- The rules of a run on this board
abbrev pub rules_on : Board → Plan → (units : List (List ℕ)) → Abort → RunRules
rules_on b p units abort = record { plan = p; units = units; cap = cap_of b; abort = abort }

-- How many answers were no evaluation
abbrev pub stopped : Answers → ℕ
stopped n = n.blocked + n.busy + n.already

-- How many answers there were
abbrev pub total : Answers → ℕ
total n = n.evaluated + n.blocked + n.busy + n.already

-- The test whether an item of a trail is a load
abbrev pub is_load : Item → Bool
is_load t = not t.own

-- How many words the hand loaded
abbrev pub loads : View → ℕ
loads v = count_by is_load v.trail

-- The runner has no more answers than its hand's own steps and loads can have brought. It keeps nothing yet, and has
-- room for what the plan's events leave
pub record IsExploring (p : Plan) (r : Runner) : Type 0 where
  pub finishes : r.answers.evaluated ≤ evaluated (hand_view r).events
  pub stops : stopped r.answers ≤ loads (hand_view r)
  pub kept : r.kept.items ≡ []
  pub room : event_count p ≤ r.kept.room

-- The runner took no number from counter c
abbrev pub Unused : ℕ → Runner → Type 0
Unused c r = times c (hand_view r).places ≡ 0

-- The runners of a board after exploring are at rest, and none of them took a number from the counter `next` or a later
-- one
pub record MayExplore (b : Board) (next : ℕ) (rs : Runners) : Type 0 where
  pub places : HasPlaces rs
  pub rest : AreAtRest b (runners_of rs)
  pub exploring : All (IsExploring (plan_of b)) (runners_of rs)
  pub unused : (c : ℕ) → next ≤ c → All (Unused c) (runners_of rs)

-- The parts that `Explored::new` put together
abbrev pub parts_of : Explored → Board × Runners × RunEnd × ℕ
parts_of e = (e.board, e.runners, e.end, e.next_counter)

-- The parts meet what `Explored::new` asks of them
abbrev pub IsExploredBoard : Explored → Type 0
IsExploredBoard e = MayExplore e.board e.next_counter e.runners
