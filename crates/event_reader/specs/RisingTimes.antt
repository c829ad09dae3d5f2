-- Inside the crate: what the timestamps of a batch keep true
use Rattle.std.specs.Prelude.{ℕ, ◌<◌, ◌≤◌, All, length, slice_index}
use Rattle.event_reader.specs.declared.times.Times.TheInside.{Inside}

-- The timestamps in the vector rise, and none is above the greatest
pub record IsRising (times : Inside) : Type 0 where
  pub rises : (i j : ℕ) → i ≤ j → j < length times.rising.items
      → slice_index times.rising.items i ≤ slice_index times.rising.items j
  pub rising_bound : All (λ t. t ≤ times.greatest) times.rising.items
  pub others_bound : All (λ t. t ≤ times.greatest) times.others.keys
