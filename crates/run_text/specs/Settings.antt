-- The settings that words ask for. The value that holds if a name is not given stands in these definitions; the code's
-- constants are checked against them
use Rattle.std.specs.Prelude.{◌≡◌, ℕ, ◌==◌, ◌≤◌, ◌&&◌, ◌||◌, not, Bool, true, false, nat_lt, nat_le, List, [], ◌∷◌, count_by, Option, Some, None, option_and_then, if◌then◌else◌, IfSome, IsTrue}
use Rattle.std.specs.List.{list_all}
use Rattle.morph_base.specs.declared.strategy.Strategy.{Strategy}
use Rattle.morph_base.specs.declared.strategy.Unit.TheVariants.{Op}
use Rattle.morph_base.specs.declared.strategy.Explore.TheVariants.{Strata}
use Rattle.morph_base.specs.declared.strategy.Abort.{Abort as AbortKind}
use Rattle.morph_base.specs.declared.strategy.Abort.TheVariants.{Lazy, Eager}
use Rattle.run_text.specs.declared.choices.Planning.{Planning}
use Rattle.run_text.specs.declared.choices.Planning.TheVariants.{Fixed, Auto}
use Rattle.run_text.specs.declared.choices.Settings.{Settings}
use Rattle.run_text.specs.declared.choices.Generated.{Generated}
use Rattle.run_text.specs.declared.choices.App.{App}
use Rattle.run_text.specs.declared.choices.App.TheVariants.{Ledger}
use Rattle.run_text.specs.declared.choices.Check.{Check}
use Rattle.run_text.specs.declared.choices.Check.TheVariants.{Off}
use Rattle.run_text.specs.declared.names.Name.TheVariants.{App as AppName, Own, Workers, Size, Unit as UnitName, Explore as ExploreName, Abort as AbortName, Plan as PlanName, Seed, Events, Notes, Ahead, Watch, Check as CheckName}
use Rattle.run_text.specs.declared.read_settings.Input.{Input}
use Rattle.run_text.specs.Checks.{is_checked}
use Rattle.run_text.specs.Words.{is_known, are_once, is_given}
use Rattle.run_text.specs.Values.{switch_in, unit_in, explore_in, abort_in, auto_in, check_in, worker_counts, sizes, seeds, event_counts, ahead_counts, number_in, given_under, app_under}

infixl 10 ◌>>=◌
-- What follows from a part that may be missing; None if it is missing
abbrev pub ◌>>=◌ : {A B : Type 0} → Option A → (A → Option B) → Option B
part >>= next = option_and_then next part

-- The test whether failures are dealt with late
abbrev pub is_late : AbortKind → Bool
is_late Lazy = true
is_late Eager = false

-- The strategy that words give for all batches: each part of it is said, or its default
abbrev pub strategy_of : List (List ℕ) → Option Strategy
strategy_of words = do
  unit ← given_under UnitName unit_in Op words
  explore ← given_under ExploreName explore_in Strata words
  abort ← given_under AbortName abort_in Lazy words
  Some (record { unit = unit; explore = explore; abort = abort })

-- The test whether words give a part of a strategy
abbrev pub is_strategy_given : List (List ℕ) → Bool
is_strategy_given words = is_given UnitName words || (is_given ExploreName words || is_given AbortName words)

-- The planning of words that say whether the program chooses: if it does, they may give no part of a strategy
abbrev pub planning_by : List (List ℕ) → (auto : Bool) → Option Planning
planning_by words true = if is_strategy_given words then None else Some Auto
planning_by words false = do
  strategy ← strategy_of words
  Some (Fixed strategy)

-- How the strategy of each batch is found: the words give it, or the program chooses it and they give no part of it
abbrev pub planning_of : List (List ℕ) → Option Planning
planning_of words = do
  auto ← given_under PlanName auto_in false words
  planning_by words auto

-- An input that is read, if no seed and no number of events is given
abbrev pub read_input : App → List (List ℕ) → Option Input
read_input app words =
    if is_given Seed words || is_given Events words then None
    else Some (record { app = app; generated = None })

-- An input that the program makes, with the seed and the number of events that words give, or 1 and 1,000
abbrev pub made_input : App → List (List ℕ) → Option Input
made_input app words = do
  seed ← given_under Seed (number_in seeds) 1 words
  events ← given_under Events (number_in event_counts) 1000 words
  Some (record { app = app; generated = Some (record { seed = seed; events = events }) })

-- The input, if exactly one of `app` and `self` is given
abbrev pub input_by : List (List ℕ) → (app self : Option App) → Option Input
input_by words (Some app) None = read_input app words
input_by words None (Some app) = made_input app words
input_by words (Some app) (Some app') = None
input_by words None None = None

-- The input that words ask for: exactly one of `app` and `self` is given
abbrev pub input_of : List (List ℕ) → Option Input
input_of words = do
  app ← app_under AppName words
  self ← app_under Own words
  input_by words app self

-- The test whether at most one is asked for of what may not go together: that batches are read ahead, that a viewer
-- looks beside each batch, and that journals are checked
abbrev pub is_alone : (ahead : ℕ) → (watch : Bool) → Check → Bool
is_alone ahead watch check = nat_le (count_by (λ asked. asked) (nat_lt 0 ahead ∷ watch ∷ is_checked check ∷ [])) 1

-- The test whether the strategy of each batch is given, and has lazy abort
abbrev pub is_lazy : Planning → Bool
is_lazy (Fixed strategy) = is_late strategy.abort
is_lazy Auto = false

-- The test whether runs can be checked if that is asked for: by one worker, with lazy abort
abbrev pub can_check : Check → (workers : ℕ) → Planning → Bool
can_check check workers planning = not (is_checked check) || ((workers == 1) && is_lazy planning)

-- The settings, if they ask for nothing that may not go together
abbrev pub if_fitting : Settings → Option Settings
if_fitting s = if is_alone s.ahead s.watch s.check && can_check s.check s.workers s.planning then Some s else None

-- The settings that words ask for with this input: each one is said, or its default
abbrev pub given_with : Input → List (List ℕ) → Option Settings
given_with input words = do
  workers ← given_under Workers (number_in worker_counts) 1 words
  size ← given_under Size (number_in sizes) 10000 words
  planning ← planning_of words
  notes ← given_under Notes switch_in false words
  ahead ← given_under Ahead (number_in ahead_counts) 0 words
  watch ← given_under Watch switch_in false words
  check ← given_under CheckName check_in Off words
  if_fitting (record { app = input.app; workers = workers; size = size; planning = planning; notes = notes; generated = input.generated; ahead = ahead; watch = watch; check = check })

-- The settings that words ask for: every word has a name that there is, no name is given twice, each value is one of
-- its name's, and nothing is asked for together that may not go together
abbrev pub settings_of : List (List ℕ) → Option Settings
settings_of words =
    if list_all is_known words && are_once words then (input_of words >>= λ input. given_with input words) else None

-- The test whether words give one of `app`, `self`, `seed` and `events`
abbrev pub is_input_given : List (List ℕ) → Bool
is_input_given words = is_given AppName words || (is_given Own words || (is_given Seed words || is_given Events words))

-- The settings that words ask for in a program of one application, which reads its input. The words give none of `app`,
-- `self`, `seed` and `events`, and the field that names the application says nothing
abbrev pub settings_of_own : List (List ℕ) → Option Settings
settings_of_own words =
    if list_all is_known words && (are_once words && not (is_input_given words)) then given_with (record { app = Ledger; generated = None }) words else None

-- The numbers of an input that the program makes are in their ranges
abbrev pub AreFewEvents : Option Generated → Type 0
AreFewEvents generated = IfSome generated (λ g. (g.seed ≤ seeds.greatest) × (g.events ≤ event_counts.greatest))

-- The numbers of the settings are in their ranges. If a viewer looks, no batches are read ahead. If journals are
-- checked, there is no viewer, nothing is read ahead, and one worker runs batches with lazy abort
pub record AreInRange (s : Settings) : Type 0 where
  pub some_workers : 1 ≤ s.workers
  pub few_workers : s.workers ≤ worker_counts.greatest
  pub some_ids : 1 ≤ s.size
  pub few_ids : s.size ≤ sizes.greatest
  pub generated : AreFewEvents s.generated
  pub few_ahead : s.ahead ≤ ahead_counts.greatest
  pub apart : IsTrue s.watch → s.ahead ≡ 0
  pub unchecked : IsTrue (is_checked s.check)
      → (s.ahead ≡ 0) × (s.watch ≡ false) × (s.workers ≡ 1) × (is_lazy s.planning ≡ true)
