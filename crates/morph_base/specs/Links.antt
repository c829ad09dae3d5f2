-- Numbered items that were put at places one after another: for each place the last item, and for each item the one
-- before it at its place. The items are operations at the places of their keys, or entries at their operations
use Rattle.std.specs.Prelude.{◌≡◌, ℕ, zero, suc, ◌<◌, Bool, ◌==◌, if◌then◌else◌, List, length, slice_index}

-- One more than the last number below n that passes a test, or 0 if none does
unfoldable pub last_passing : (ℕ → Bool) → ℕ → ℕ
last_passing test zero = 0
last_passing test (suc n) = if test n then suc n else last_passing test n

-- The first n items, each with its place
module _ (place : ℕ → ℕ) (n : ℕ) where
  -- Each of the places has one more than the number of the last item at it, or 0 if it has none
  abbrev pub AreEnds : List ℕ → Type 0
  AreEnds ends = (q : ℕ) → q < length ends → slice_index ends q ≡ last_passing (λ i. place i == q) n

  -- Each item has one more than the number of the last one before it at its place, or 0 if there is none
  abbrev pub AreLinked : (ℕ → ℕ) → Type 0
  AreLinked before = (i : ℕ) → i < n → before i ≡ last_passing (λ k. place k == place i) i
