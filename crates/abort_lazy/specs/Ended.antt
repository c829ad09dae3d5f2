-- What is known of a batch once its board is closed: each event was tried once, and why some were left
use Rattle.std.specs.Prelude.{◌≡◌, ◌≢◌, ℕ, ◌+◌, ◌<◌, ◌≤◌, ◌==◌, ◌⊎◌, ◌++◌, true, false, List, [], Contains, All, count_by, sum_by, length, map, replicate, slice_index_or}
use Rattle.morph_base.specs.Contents.{Contents}
use Rattle.morph_base.specs.declared.plan.Plan.{Plan}
use Rattle.morph_base.specs.declared.word.OpState.TheVariants.{Claimed}
use Rattle.morph_base.specs.Graphs.{below}
use Rattle.morph_base.specs.Plans.{event_count, event_of, op_count, InEvent}
use Rattle.morph_base.specs.Words.{is_settled}
use Rattle.interleaving_core.specs.Core.{Core}
use Rattle.op_words.specs.declared.trail.Item.{Item}
use Rattle.op_words.specs.declared.trail.View.{View}
use Rattle.op_words.specs.Closing.{HasTrail}
use Rattle.op_words.specs.Trails.{loaded, IsSourceOf, IsShaken}
use Rattle.op_eval.specs.declared.answers.Left.{Left}
use Rattle.op_eval.specs.declared.runner.Runner.{Runner}
use Rattle.op_eval.specs.Exploring.{Unused}
use Rattle.op_eval.specs.Running.{hand_view}
use Rattle.op_eval.specs.Turns.{TakingCall}
use Rattle.abort_lazy.specs.Sweeps.{MakesCalls, tried_by}

-- ---- each event once

-- The runners took no number from the counter `from` or a later one, and left nothing yet. No hand was joined to the
-- root, and worker w has tag w
pub record AreAtStart (from : ℕ) (start : List Runner) : Type 0 where
  pub unused : (c : ℕ) → from ≤ c → All (Unused c) start
  pub none_kept : All (λ r. r.kept.items ≡ []) start
  pub none_joined : (d : Runner) → (hand_view (slice_index_or start 0 d)).joined ≡ []
  pub tags : (k : ℕ) (d : Runner) → k < length start → (hand_view (slice_index_or start k d)).tag ≡ k + 1

-- Over the calls of all runners, each event of the plan was tried once, and no other
pub record AreTries (p : Plan) (start rs : List Runner) : Type 0 where
  pub calls : ℕ → List TakingCall
  pub made : (k : ℕ) (d : Runner) → k < length start
      → MakesCalls p (calls k) (slice_index_or start k d) (slice_index_or rs k d)
  pub once : (weight : ℕ → ℕ)
      → sum_by (λ k. sum_by (tried_by weight) (calls k)) (below (length start)) ≡ sum_by weight (below (event_count p))

-- ---- why events were left

-- After a list of what workers left, there is an empty one for each of n idle workers
pub record AddsEmpty (n : ℕ) (before after : List (Contents Left)) : Type 0 where
  pub added : List (Contents Left)
  pub all : after ≡ before ++ added
  pub empty : map (λ l. l.items) added ≡ replicate n []

-- How many causes are kept of event i
abbrev pub causes_of : ℕ → List (List Left) → ℕ
causes_of i lists = sum_by (λ list. count_by (λ x. x.event == i) list) lists

-- How many causes are kept of all events
abbrev pub causes : List (List Left) → ℕ
causes lists = sum_by length lists

module _ (p : Plan) (c : Core) (v : View) (worker : ℕ) (x : Left) (trail : List Item) where
  -- A source of an operation of the event was not settled, and this worker did not settle it
  pub record IsLeftForSource : Type 0 where
    pub reader : ℕ
    pub inside : InEvent p x.event reader
    pub source : IsSourceOf p reader x.at
    pub settled : is_settled x.word.state ≡ false
    pub not_mine : is_settled (c.word x.at).state ≡ true → (c.word x.at).by ≢ worker

  -- An operation of the event was held by another worker, or it or a source of it was disturbed
  pub record IsLeftForOwn : Type 0 where
    pub inside : InEvent p x.event x.at
    pub cause : ((x.word.state ≡ Claimed) × (x.word.by ≢ worker)) ⊎ IsShaken p x.at trail

  -- The worker loaded the word that it kept, in this trail of its own, and for that it left the event
  pub record IsKeptIn : Type 0 where
    pub trail_is : HasTrail v worker trail
    pub seen : Contains trail (loaded x.at x.word)
    pub cause : IsLeftForSource ⊎ IsLeftForOwn

-- The worker loaded the word that it kept, in its trail as the closed board shows it, and for that it left the event
abbrev pub IsKept : Plan → Core → View → (worker : ℕ) → Left → Type 0
IsKept p c v worker x = (trail : List Item) × IsKeptIn p c v worker x trail

-- Each cause in the lists, worker 1 first, is true. An event has at most one, and it has one if not all of it was
-- settled
pub record AreCauses (p : Plan) (c : Core) (v : View) (lists : List (List Left)) : Type 0 where
  pub each : (k : ℕ) (d : List Left) → k < length lists → All (IsKept p c v (k + 1)) (slice_index_or lists k d)
  pub once : (i : ℕ) → causes_of i lists ≤ 1
  pub some : (o : ℕ) → o < op_count p → is_settled (c.word o).state ≡ false → causes_of (event_of p o) lists ≡ 1
