-- Numbers taken from counters, and the level word
use Rattle.std.specs.Prelude.{◌≡◌, ℕ, ◌+◌, ◌<◌, List, [], ◌∷◌, ◌++◌, Contains, Some, sum_by}
use Rattle.atomic_table.specs.Table.{Step}
use Rattle.op_words.specs.declared.trail.Place.{Place}
use Rattle.op_words.specs.declared.trail.View.{View}
use Rattle.op_words.specs.Journals.{roomed}
use Rattle.op_words.specs.Layout.{counter_base}
use Rattle.op_words.specs.Rule.{of_counter, one}
use Rattle.op_words.specs.Views.{IsLone}
use Rattle.op_words.specs.Plays.{Sat}

-- The number n, taken from counter k
abbrev pub place : ℕ → ℕ → Place
place k n = record { counter = k; number = n }

-- The view after number n was taken from counter k
abbrev pub taking : ℕ → ℕ → View → View
taking k n v = record v { places = v.places ++ place k n ∷ [] }

-- How many numbers were taken from counter k
abbrev pub times : ℕ → List Place → ℕ
times k xs = sum_by (of_counter k one) xs

-- The number n is above all that the hand took from counter k before. If the hand is a lone root, n is how many it took
pub record IsNumberTaken (k n : ℕ) (v : View) : Type 0 where
  pub rises : (x : Place) → Contains v.places x → x.counter ≡ k → x.number < n
  pub lone : IsLone v → n ≡ times k v.places

-- The step adds 1 to a counter, and the hand takes the number that it found. The view has the plan, by which the word's
-- index says which counter it is
abbrev pub takes : Step (Unit {0}) → Sat → ℕ → Sat → Type 0
takes st m n m' =
    (v : View) → m.0 ≡ Some v → (k : ℕ) → st.word ≡ counter_base v.plan.value + k
    → IsNumberTaken k n v × (m' ≡ (Some (taking k n v), m.1))

-- The step is on the level word, and changes no view
abbrev pub passes : Step (Unit {0}) → Sat → ℕ → Sat → Type 0
passes st m n m' = m' ≡ m

-- The step is on the level word, and gives the hand's journal the room that the step names
abbrev pub fits : Step (Unit {0}) → Sat → ℕ → Sat → Type 0
fits st m n m' = (v : View) → m.0 ≡ Some v → m' ≡ (Some (roomed st.first v), m.1)
