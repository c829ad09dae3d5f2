-- Where operations stand in units
use Rattle.std.specs.Prelude.{◌≡◌, ℕ, ◌<◌, ◌^◌, ◌⊎◌, List, [], length, slice_get, slice_index_or, Some}
use Rattle.chain_units.specs.declared.places.Place.{Place}

-- Units of this many operations
pub record Grouping : Type 0 where
  pub units : List (List ℕ)
  pub ops : ℕ

-- Operation o stands at place i of unit u
abbrev pub StandsAt : List (List ℕ) → (u i o : ℕ) → Type 0
StandsAt units u i o = slice_get (slice_index_or units u []) i ≡ Some o

-- Each of n operations stands in exactly one unit, at one place, and no other operation does
pub record IsPartition (units : List (List ℕ)) (n : ℕ) : Type 0 where
  pub all : (o : ℕ) → o < n → (u : ℕ) × (i : ℕ) × StandsAt units u i o
  pub inside : (u i o : ℕ) → StandsAt units u i o → o < n
  pub alone : (u v i j o : ℕ) → StandsAt units u i o → StandsAt units v j o → (u ≡ v) × (i ≡ j)

-- Units and their places have numbers of 32 bits
pub record AreFewUnits (units : List (List ℕ)) : Type 0 where
  pub unit_numbers : length units < 2 ^ 32
  pub places : (u : ℕ) → length (slice_index_or units u []) < 2 ^ 32

-- The place that a list has for operation o
abbrev pub place_in : List Place → ℕ → Place
place_in places o = slice_index_or places o (record { unit = 0; at = 0 })

-- The places say where each operation stands, and none stands elsewhere
pub record IsIndexed (units : List (List ℕ)) (places : List Place) : Type 0 where
  pub few : length units < 2 ^ 32
  pub stands : (o : ℕ) → o < length places → StandsAt units (place_in places o).unit (place_in places o).at o
  pub unit_is : (u i o : ℕ) → StandsAt units u i o → u ≡ (place_in places o).unit
  pub at_is : (u i o : ℕ) → StandsAt units u i o → i ≡ (place_in places o).at

-- The places say where the operations of the units before u stand, and the first i operations of unit u
abbrev pub AreEntered : List (List ℕ) → (u i : ℕ) → List Place → Type 0
AreEntered units u i places = (v k o : ℕ) → (v < u) ⊎ ((v ≡ u) × (k < i)) → StandsAt units v k o
    → (v ≡ (place_in places o).unit) × (k ≡ (place_in places o).at)
