-- The journal of a hand: the first of its own steps, in order
use Rattle.std.specs.Prelude.{◌≡◌, ℕ, ◌<◌, ◌⊎◌, List, [], length, reverse, take, Option, Some, None}
use Rattle.morph_base.specs.declared.plan.Plan.{Plan}
use Rattle.interleaving_core.specs.declared.event.CoreEvent.{CoreEvent}
use Rattle.interleaving_core.specs.Core.{Core, start}
use Rattle.interleaving_core.specs.Orders.{Leads}
use Rattle.op_words.specs.declared.journal.Journal.{Journal}
use Rattle.op_words.specs.declared.trail.View.{View}

-- How many steps the journal has room for. A hand that keeps none has room for none
abbrev pub room_in : Option Journal → ℕ
room_in None = 0
room_in (Some j) = j.room

-- The steps in the journal, if there is one
abbrev pub steps_in : Option Journal → List CoreEvent
steps_in None = []
steps_in (Some j) = j.steps.items

-- The view with room for n steps
abbrev pub roomed : ℕ → View → View
roomed n v = record v { room = n }

-- No hand was joined into this one, or no other hand was made
abbrev pub IsUnjoined : View → Type 0
IsUnjoined v = (v.made ≡ 1) ⊎ (v.joined ≡ [])

-- The journal j has the first of the steps that its hand took itself, as many as there is room for. As long as no hand
-- was joined into it, all steps in its view are its own
pub record IsJournal (v : View) (j : Option Journal) : Type 0 where
  pub room : room_in j ≡ v.room
  pub steps : steps_in j ≡ take v.room (reverse v.own)
  pub alone : IsUnjoined v → v.events ≡ v.own

-- The machine takes the journal step by step from the start. If the journal is not full, it leads to state c
pub record IsJournalOf (p : Plan) (cap room : ℕ) (journal : List CoreEvent) (c : Core) : Type 0 where
  pub state : Core
  pub leads : Leads p cap start journal state
  pub whole : length journal < room → state ≡ c
