-- What the values of words mean. The numbers of the ranges stand in these definitions, and the code's constants are
-- checked against them
use Rattle.std.specs.Prelude.{ℕ, ◌&&◌, Bool, true, false, List, [], ◌∷◌, codes, Option, Some, None, option_map, if◌then◌else◌}
use Rattle.std.specs.Map.{lookup}
use Rattle.std.specs.Str.{bytes_eq}
use Rattle.event_reader.specs.declared.ranges.Range.{Range}
use Rattle.event_reader.specs.Numbers.{is_in, is_number, value_of}
use Rattle.morph_base.specs.declared.strategy.Unit.{Unit}
use Rattle.morph_base.specs.declared.strategy.Unit.TheVariants.{Op, Chain}
use Rattle.morph_base.specs.declared.strategy.Explore.{Explore}
use Rattle.morph_base.specs.declared.strategy.Explore.TheVariants.{Strata, Steal}
use Rattle.morph_base.specs.declared.strategy.Abort.{Abort}
use Rattle.morph_base.specs.declared.strategy.Abort.TheVariants.{Lazy, Eager}
use Rattle.run_text.specs.declared.choices.App.{App}
use Rattle.run_text.specs.declared.choices.App.TheVariants.{Ledger, Grep, Toll}
use Rattle.run_text.specs.declared.choices.Check.{Check}
use Rattle.run_text.specs.declared.choices.Check.TheVariants.{Off, On, Text}
use Rattle.run_text.specs.declared.names.Name.{Name}
use Rattle.run_text.specs.Words.{value_under}

-- What a value means by a table of values and their meanings; None if the table does not have it
abbrev pub meaning_in : {A : Type 0} → List (List ℕ × A) → (value : List ℕ) → Option A
meaning_in table value = lookup (bytes_eq value) table

-- The application that a value names
abbrev pub app_in : List ℕ → Option App
app_in value = meaning_in ((codes "ledger", Ledger) ∷ (codes "grep", Grep) ∷ (codes "toll", Toll) ∷ []) value

-- Whether a value says on or off
abbrev pub switch_in : List ℕ → Option Bool
switch_in value = meaning_in ((codes "on", true) ∷ (codes "off", false) ∷ []) value

-- The word of what is scheduled as a whole
abbrev pub unit_word : Unit → List ℕ
unit_word Op = codes "op"
unit_word Chain = codes "chain"

-- The word of how a batch is explored
abbrev pub explore_word : Explore → List ℕ
explore_word Strata = codes "strata"
explore_word Steal = codes "steal"

-- The word of how failures are dealt with
abbrev pub abort_word : Abort → List ℕ
abort_word Lazy = codes "lazy"
abort_word Eager = codes "eager"

-- The unit that a value names
abbrev pub unit_in : List ℕ → Option Unit
unit_in value = meaning_in ((unit_word Op, Op) ∷ (unit_word Chain, Chain) ∷ []) value

-- The way to explore that a value names
abbrev pub explore_in : List ℕ → Option Explore
explore_in value = meaning_in ((explore_word Strata, Strata) ∷ (explore_word Steal, Steal) ∷ []) value

-- The way to deal with failures that a value names
abbrev pub abort_in : List ℕ → Option Abort
abort_in value = meaning_in ((abort_word Lazy, Lazy) ∷ (abort_word Eager, Eager) ∷ []) value

-- Whether a value says that the program chooses the strategy
abbrev pub auto_in : List ℕ → Option Bool
auto_in value = meaning_in ((codes "auto", true) ∷ (codes "fixed", false) ∷ []) value

-- What is done with journals, as a value says it
abbrev pub check_in : List ℕ → Option Check
check_in value = meaning_in ((codes "off", Off) ∷ (codes "on", On) ∷ (codes "text", Text) ∷ []) value

-- The range between two numbers
abbrev pub from_to : (least greatest : ℕ) → Range
from_to least greatest = record { least = least; greatest = greatest }

-- The range of the number of workers: 1 to 16
abbrev pub worker_counts : Range
worker_counts = from_to 1 16

-- The range of the number of ids in a table: 1 to 10^6
abbrev pub sizes : Range
sizes = from_to 1 1000000

-- The range of a seed: 0 to 10^12
abbrev pub seeds : Range
seeds = from_to 0 1000000000000

-- The range of the number of generated events: 0 to 10^6
abbrev pub event_counts : Range
event_counts = from_to 0 1000000

-- The range of the number of batches that are read and planned ahead: 0 to 2
abbrev pub ahead_counts : Range
ahead_counts = from_to 0 2

-- The test whether a value says a number in a range, in decimal digits with no 0 in front
abbrev pub says_in : Range → List ℕ → Bool
says_in range value = is_number value && is_in range (value_of value)

-- The number in a range that a value says
abbrev pub number_in : Range → List ℕ → Option ℕ
number_in range value = if says_in range value then Some (value_of value) else None

-- What a value that may be missing says: the default if it is missing, and else what it means; None if it means nothing
abbrev pub given : {A : Type 0} → (meaning : List ℕ → Option A) → (default : A) → Option (List ℕ) → Option A
given meaning default None = Some default
given meaning default (Some value) = meaning value

-- What words say under a name: the default if no word has the name, and None if the value means nothing
abbrev pub given_under : {A : Type 0} → Name → (meaning : List ℕ → Option A) → (default : A) → List (List ℕ) → Option A
given_under name meaning default words = given meaning default (value_under name words)

-- The application that words give under a name, which may be missing; None if the value names none
abbrev pub app_under : Name → List (List ℕ) → Option (Option App)
app_under name words = given_under name (λ value. option_map Some (app_in value)) None words
