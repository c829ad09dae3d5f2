-- Why words ask for no settings: the list of the causes
use Rattle.std.specs.Prelude.{◌≡◌, ℕ, ◌≤◌, ◌||◌, Bool, true, false, List, count_by, Some, is_some}
use Rattle.std.specs.List.{list_all, list_any}
use Rattle.std.specs.Str.{bytes_eq}
use Rattle.run_text.specs.declared.names.Name.{Name}
use Rattle.run_text.specs.declared.names.Name.TheVariants.{App, Own, Workers, Size, Unit as UnitName, Explore as ExploreName, Abort as AbortName, Plan as PlanName, Seed, Events, Notes, Ahead, Watch, Check as CheckName}
use Rattle.run_text.specs.declared.choices.Check.{Check}
use Rattle.run_text.specs.declared.choices.Check.TheVariants.{Off}
use Rattle.run_text.specs.declared.choices.Planning.{Planning}
use Rattle.run_text.specs.Words.{text_of, all_names, has_equals, name_of, has_name, value_under, is_given}
use Rattle.run_text.specs.Values.{app_in, switch_in, unit_in, explore_in, abort_in, auto_in, says_in, worker_counts, sizes, seeds, event_counts, ahead_counts, check_in, number_in, given_under}
use Rattle.run_text.specs.Settings.{is_strategy_given, planning_of, is_alone, can_check}

-- The test whether bytes are a name that there is
abbrev pub is_name : List ℕ → Bool
is_name bytes = list_any (λ name. bytes_eq bytes (text_of name)) all_names

-- The test whether a value is one of a name's
abbrev pub is_value_of : Name → (value : List ℕ) → Bool
is_value_of App value = is_some (app_in value)
is_value_of Own value = is_some (app_in value)
is_value_of Workers value = says_in worker_counts value
is_value_of Size value = says_in sizes value
is_value_of UnitName value = is_some (unit_in value)
is_value_of ExploreName value = is_some (explore_in value)
is_value_of AbortName value = is_some (abort_in value)
is_value_of PlanName value = is_some (auto_in value)
is_value_of Seed value = says_in seeds value
is_value_of Events value = says_in event_counts value
is_value_of Notes value = is_some (switch_in value)
is_value_of Ahead value = says_in ahead_counts value
is_value_of Watch value = is_some (switch_in value)
is_value_of CheckName value = is_some (check_in value)

-- The words ask for no settings, by one of these causes: a word has no `=`; its name is none that there is; a name is
-- given twice; a value is not one of its name's; both of `app` and `self` are given; neither is; a seed or a number of
-- events is given without `self`; a part of the strategy is given though the program chooses it; more than one is asked
-- for of what may not go together; journals are to be checked of runs that cannot be
pub data NoSettings (words : List (List ℕ)) : Type 0 where
  -- A word has no `=`
  no_equals : list_all has_equals words ≡ false → NoSettings words
  -- The name of a word is none that there is
  unknown_name : list_all (λ word. is_name (name_of word)) words ≡ false → NoSettings words
  -- A name is given twice
  given_twice : (name : Name) → 2 ≤ count_by (has_name name) words → NoSettings words
  -- A value is not one of its name's
  other_value : (name : Name) (value : List ℕ) → value_under name words ≡ Some value → is_value_of name value ≡ false
      → NoSettings words
  -- Both of `app` and `self` are given, or neither is
  both_inputs : is_given App words ≡ true → is_given Own words ≡ true → NoSettings words
  no_input : is_given App words ≡ false → is_given Own words ≡ false → NoSettings words
  -- A seed or a number of events is given without `self`
  made_alone : (is_given Seed words || is_given Events words) ≡ true → is_given Own words ≡ false → NoSettings words
  -- A part of the strategy is given though the program chooses it
  chosen_and_given : given_under PlanName auto_in false words ≡ Some true → is_strategy_given words ≡ true → NoSettings words
  -- More than one is asked for of what may not go together
  not_alone : (ahead : ℕ) (watch : Bool) (check : Check) → given_under Ahead (number_in ahead_counts) 0 words ≡ Some ahead
      → given_under Watch switch_in false words ≡ Some watch
      → given_under CheckName check_in Off words ≡ Some check → is_alone ahead watch check ≡ false → NoSettings words
  -- Journals are to be checked of runs that cannot be: by several workers, with eager abort, or by strategies that the
  -- program chooses
  not_checkable : (check : Check) (workers : ℕ) (planning : Planning) → given_under CheckName check_in Off words ≡ Some check
      → given_under Workers (number_in worker_counts) 1 words ≡ Some workers
      → planning_of words ≡ Some planning → can_check check workers planning ≡ false → NoSettings words
