-- What the board shows once every hand is joined and nobody steps on it any more
use Rattle.std.specs.Prelude.{◌≡◌, ℕ, ◌+◌, ◌<◌, ◌⊎◌, List, Contains, sum_by, slice_index}
use Rattle.std.specs.List.{range_with_len}
use Rattle.morph_base.specs.declared.plan.Plan.{Plan}
use Rattle.morph_base.specs.Graphs.{below}
use Rattle.interleaving_core.specs.declared.entry.Entry.{Entry}
use Rattle.interleaving_core.specs.declared.entry.Settling.{Settling}
use Rattle.interleaving_core.specs.declared.event.CoreEvent.{CoreEvent}
use Rattle.interleaving_core.specs.Core.{Core}
use Rattle.interleaving_core.specs.Soundness.{IsSound}
use Rattle.interleaving_core.specs.Steps.{Run}
use Rattle.op_words.specs.declared.trail.Item.{Item}
use Rattle.op_words.specs.declared.trail.Joined.{Joined}
use Rattle.op_words.specs.declared.trail.View.{View}
use Rattle.op_words.specs.Layout.{Shows, counter_base}
use Rattle.op_words.specs.Evidence.{AreNoted}
use Rattle.op_words.specs.Rule.{taken, tags}
use Rattle.op_words.specs.Views.{IsBookedInView}
use Rattle.std.specs.Slots.{slots_items}
use Rattle.op_words.specs.declared.closed.Closed.{Closed}
use Rattle.op_words.specs.Layout.{decision_base}
use Rattle.op_words.specs.Hands.{counts_of, view_of}
use Rattle.op_words.specs.Journals.{steps_in, IsJournal}

-- The hand of tag t was joined into the one with this view
abbrev pub IsJoined : View → ℕ → Type 0
IsJoined v t = (x : Joined) × Contains v.joined x × (x.tag ≡ t)

-- The trail xs is that of the hand of tag t: the root itself, or a hand that was joined into it
abbrev pub HasTrail : View → ℕ → List Item → Type 0
HasTrail v t xs = ((v.tag ≡ t) × (v.trail ≡ xs)) ⊎ ((x : Joined) × Contains v.joined x × (x.tag ≡ t) × (x.trail ≡ xs))

-- The words ws show a sound state of the machine, and the root's view v has what led to it: the values shown, the
-- settlings, each in the trail of its tag, the steps, and the numbers taken from each counter, each once. Each tag that
-- a hand had stands there once
pub record EndsSound (p : Plan) (cap counters : ℕ) (ws : List ℕ) (v : View) : Type 0 where
  pub core : Core
  pub history : List CoreEvent
  pub run : Run p cap history core
  pub sound : IsSound p cap core
  pub shows : Shows p counters core ws
  pub noted : AreNoted p core v
  pub published : (h : Entry → ℕ) → sum_by h v.published ≡ sum_by h core.published
  pub settlings : (h : Settling → ℕ) → sum_by h v.settlings ≡ sum_by h core.settlings
  pub booked : (x : Settling) → Contains v.settlings x → IsBookedInView v x
  pub events : (h : CoreEvent → ℕ) → sum_by h v.events ≡ sum_by h history
  pub numbers :
      (k : ℕ) → k < counters → (h : ℕ → ℕ) → taken k h v ≡ sum_by h (below (slice_index ws (counter_base p + k)))
  pub tags_once : (h : ℕ → ℕ) → tags h v ≡ sum_by h (range_with_len 1 v.made)
  pub only : v.made ≡ 1 → history ≡ v.events

-- The words of a board after its end
abbrev pub words_of : Closed → List ℕ
words_of c = slots_items c.table.words

-- The steps that the root wrote down
abbrev pub journal_of : Closed → List CoreEvent
journal_of c = steps_in c.journal

-- The board was closed by the root with this view v, which the board still shows to contracts
pub record IsClosed (p : Plan) (cap counters : ℕ) (v : View) (c : Closed) : Type 0 where
  pub ends : EndsSound p cap counters (words_of c) v
  pub decisions : c.decisions ≡ decision_base p
  pub counts : c.counts ≡ counts_of v.events
  pub journal : IsJournal v c.journal
  pub view_is : v ≡ view_of c.root.value
