-- Runners that have gone on, whatever they explored
use Rattle.std.specs.Prelude.{◌≡◌, ℕ, ◌<◌, List, ◌++◌, length, slice_index_or}
use Rattle.op_words.specs.declared.trail.Item.{Item}
use Rattle.op_words.specs.Trails.{OwnOpen, IsCalm}
use Rattle.op_words.specs.Views.{IsLone}
use Rattle.op_eval.specs.declared.runner.Runner.{Runner}
use Rattle.op_eval.specs.Running.{hand_view}

-- Runner b is runner a after calls that settled nothing: the same hand has noted what it loaded and left in between,
-- and a lone root loaded what it knew last
pub record IsFurther (a b : Runner) : Type 0 where
  pub tag : (hand_view b).tag ≡ (hand_view a).tag
  pub made : (hand_view b).made ≡ (hand_view a).made
  pub room : (hand_view b).room ≡ (hand_view a).room
  pub joined : (hand_view b).joined ≡ (hand_view a).joined
  pub words : List Item
  pub trail : (hand_view b).trail ≡ (hand_view a).trail ++ words
  pub notes : (hand_view b).notes ≡ (hand_view a).notes ++ words
  pub open_own : OwnOpen words
  pub calm : IsLone (hand_view a) → IsCalm (hand_view a).trail words

-- Each runner is the same as before, after calls that settled nothing
pub record HaveGoneOn (before after : List Runner) : Type 0 where
  pub len : length after ≡ length before
  pub each : (k : ℕ) (d : Runner) → k < length before → IsFurther (slice_index_or before k d) (slice_index_or after k d)
