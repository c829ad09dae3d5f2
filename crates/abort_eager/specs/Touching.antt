-- What becomes of the targets of a cascade, one after another
use Rattle.std.specs.Prelude.{◌≡◌, ℕ, ◌<◌, true, List, [], ◌∷◌, ◌++◌, Contains, Option, Some, None}
use Rattle.morph_base.specs.declared.plan.Plan.{Plan}
use Rattle.morph_base.specs.Plans.{op_count}
use Rattle.interleaving_core.specs.declared.event.CoreEvent.{CoreEvent}
use Rattle.interleaving_core.specs.declared.event.CoreEvent.TheVariants.{Spread as SpreadStep, RollBack as RollBackStep}
use Rattle.interleaving_core.specs.Core.{places}
use Rattle.op_words.specs.declared.answers.Rolled.{Rolled}
use Rattle.op_words.specs.declared.answers.Rolled.TheVariants.{Done as HasRolled, Fresh as IsFresh, Not as Unrolled}
use Rattle.op_words.specs.declared.answers.Spreaded.{Spreaded}
use Rattle.op_words.specs.declared.answers.Spreaded.TheVariants.{Done as HasSpread, Not as Unspread}
use Rattle.op_words.specs.declared.trail.Item.{Item}
use Rattle.op_words.specs.declared.trail.View.{View}
use Rattle.op_words.specs.Retrying.{IsSpreadFrom, SpreadDoes, RollDoes}
use Rattle.op_words.specs.Trails.{OwnOpen}
use Rattle.op_words.specs.Views.{HasShownFailure, AddsAndFrees}
use Rattle.abort_eager.specs.declared.answers.Target.{Target}
use Rattle.abort_eager.specs.declared.answers.Target.TheVariants.{Spread, RollBack}
use Rattle.abort_eager.specs.declared.answers.Touch.{Touch}
use Rattle.abort_eager.specs.declared.answers.Touch.TheVariants.{Spread as WasSpread, RolledBack, Fresh, Not}
use Rattle.abort_eager.specs.declared.answers.Touched.{Touched}
use Rattle.abort_eager.specs.declared.cascade.Cascade.{Cascade}
use Rattle.abort_eager.specs.Targets.{targets_left}

-- What became of operation o when a failure was spread to it, by the board's answer
abbrev pub spread_touch : ℕ → Spreaded → Touch
spread_touch o HasSpread = WasSpread
spread_touch o (Unspread w) = Not o w

-- What became of an operation when it was rolled back, by the board's answer
abbrev pub roll_touch : Rolled → Touch
roll_touch HasRolled = RolledBack
roll_touch (IsFresh x) = Fresh x
roll_touch (Unrolled at w) = Not at w

-- The steps of touching a target: the one that spreads a failure of operation `failing` to it, or the one that rolls it
-- back, or none
abbrev pub touch_steps : Target → ℕ → Touch → List CoreEvent
touch_steps (Spread o) failing WasSpread = SpreadStep o failing ∷ []
touch_steps (RollBack o j) failing RolledBack = RollBackStep o j ∷ []
touch_steps g failing t = []

-- If the cascade was started for a failure, the hand showed a failure of its operation
abbrev pub HasCause : Cascade → View → Type 0
HasCause c v = c.failed ≡ true → HasShownFailure v c.op

-- The target may be touched: a failure of operation o may be spread to it, or it is a place of an operation
abbrev pub CanTouch : Plan → ℕ → View → Target → Type 0
CanTouch p o v (Spread s) = (s < op_count p) × IsSpreadFrom p s o v
CanTouch p o v (RollBack q j) = (q < op_count p) × (j < places p q)

module _ (p : Plan) (cap : ℕ) where
  -- A failure that the hand showed was spread to operation o, and t is what the board answered
  pub record IsSpreadTouched (o : ℕ) (v u : View) (t : Touched) : Type 0 where
    pub in_range : o < op_count p
    pub sibling : ℕ
    pub from : IsSpreadFrom p o sibling v
    pub answer : Spreaded
    pub does : SpreadDoes p cap o v u sibling answer
    pub op_is : t.op ≡ o
    pub touch_is : t.touch ≡ spread_touch o answer

  -- Operation o was rolled back for place j, and t is what the board answered
  pub record IsRollTouched (o j : ℕ) (v u : View) (t : Touched) : Type 0 where
    pub in_range : o < op_count p
    pub in_places : j < places p o
    pub answer : Rolled
    pub does : RollDoes p cap o v u j answer
    pub op_is : t.op ≡ o
    pub touch_is : t.touch ≡ roll_touch answer

  -- The target was touched, and t is what became of it
  abbrev pub Touches : Target → View → View → Touched → Type 0
  Touches (Spread o) = IsSpreadTouched o
  Touches (RollBack o j) = IsRollTouched o j

  -- All targets of the list were touched, one after another
  abbrev pub Touching : List Target → View → View → Type 0
  Touching [] v u = u ≡ v
  Touching (g ∷ gs) v u = (m : View) × (t : Touched) × Touches g v m t × Touching gs m u

  module _ (a b : Cascade) (v u : View) where
    -- The first target that was left was touched, by a step that names only the cascade's operation as the one that
    -- failed
    pub record IsTouched (t : Touched) : Type 0 where
      pub target : Target
      pub left : targets_left p a ≡ target ∷ targets_left p b
      pub touches : Touches target v u t
      pub steps : u.events ≡ touch_steps target a.op t.touch ++ v.events

    -- No target was left, and the hand did nothing
    pub record IsEnded : Type 0 where
      pub before : targets_left p a ≡ []
      pub after : targets_left p b ≡ []
      pub same : u ≡ v

    -- The answer of `next` is what became of the next target, or nothing if none was left
    abbrev pub NextDoes : Option Touched → Type 0
    NextDoes None = IsEnded
    NextDoes (Some t) = IsTouched t

-- The operation that a target touches
abbrev pub op_of : Target → ℕ
op_of (Spread o) = o
op_of (RollBack o j) = o

-- A whole cascade led from view v to view u: the hand's own steps are on operations of the targets alone, and settle
-- nothing
pub record CascadeDoes (gs : List Target) (v u : View) : Type 0 where
  pub words : List Item
  pub goes : AddsAndFrees v u words
  pub own : (t : Item) → Contains words t → t.own ≡ true → (g : Target) × Contains gs g × (op_of g ≡ t.op)
  pub open_own : OwnOpen words
