-- Words ask for no settings exactly where one of the causes holds.
use Rattle.std.proofs.Common.{◌≡◌, ℕ, ◌⊎◌, inl, inr, Bool, true, false, List, [], ◌∷◌, Option, Some, None, refl, ap, sym, ◌∙◌, lit<}
use Rattle.std.specs.Prelude.{◌&&◌, ◌||◌, count_by, is_some, option_map, if◌then◌else◌}
use Rattle.std.specs.List.{list_all, list_any}
use Rattle.std.specs.Str.{bytes_eq}
use Rattle.std.proofs.lemmas.Bool.{cases_Bool, and_cases, and_left, and_right, cond-true, cond-false, leb-false, lt-leb, true≢false}
use Rattle.std.proofs.lemmas.List.Folds.{list_all_at}
use Rattle.event_reader.specs.Numbers.{value_of}
use Rattle.event_reader.specs.declared.ranges.Range.{Range}
use Rattle.morph_base.specs.declared.strategy.Unit.{Unit as UnitKind}
use Rattle.morph_base.specs.declared.strategy.Unit.TheVariants.{Op}
use Rattle.morph_base.specs.declared.strategy.Explore.{Explore as ExploreKind}
use Rattle.morph_base.specs.declared.strategy.Explore.TheVariants.{Strata}
use Rattle.morph_base.specs.declared.strategy.Abort.{Abort as AbortKind}
use Rattle.morph_base.specs.declared.strategy.Abort.TheVariants.{Lazy}
use Rattle.run_text.specs.declared.choices.App.{App}
use Rattle.run_text.specs.declared.choices.Check.{Check}
use Rattle.run_text.specs.declared.choices.Check.TheVariants.{Off}
use Rattle.run_text.specs.declared.choices.Planning.TheVariants.{Auto}
use Rattle.run_text.specs.declared.choices.Settings.{Settings}
use Rattle.run_text.specs.declared.names.Name.{Name}
use Rattle.run_text.specs.declared.names.Name.TheVariants.{App as AppName, Own, Workers, Size, Unit as UnitName, Explore as ExploreName, Abort as AbortName, Plan as PlanName, Seed, Events, Notes, Ahead, Watch, Check as CheckName}
use Rattle.run_text.specs.declared.read_settings.Input.{Input}
use Rattle.run_text.specs.Words.{text_of, all_names, has_equals, name_of, has_name, is_known, is_once, are_once, value_under, is_given}
use Rattle.run_text.specs.Values.{app_in, switch_in, unit_in, explore_in, abort_in, auto_in, check_in, worker_counts, sizes, seeds, event_counts, ahead_counts, says_in, number_in, given, given_under, app_under}
use Rattle.run_text.specs.Settings.{◌>>=◌, strategy_of, is_strategy_given, planning_by, planning_of, made_input, input_by, input_of, is_alone, can_check, given_with, settings_of}
use Rattle.run_text.specs.NoSettings.{is_name, is_value_of, NoSettings, no_equals, unknown_name, given_twice, other_value, both_inputs, no_input, made_alone, chosen_and_given, not_alone, not_checkable}
use Rattle.run_text.proofs.Parts.{none_at, none_after, none_by_some, none_cases, none_if, none_unless}

-- ---- the names

-- a word has a name that there is where it has an `=`, and what stands before it is such a name
by_any : (any : Bool) (test : Name → Bool) (names : List Name) → list_any (λ name. any && test name) names ≡ (any && list_any test names)
by_any true test names = refl
by_any false test [] = refl
by_any false test (name ∷ names) = by_any false test names

known_by : (word : List ℕ) → is_known word ≡ (has_equals word && is_name (name_of word))
known_by word = by_any (has_equals word) (λ name. bytes_eq (name_of word) (text_of name)) all_names

exchange : (a b c d : Bool) → ((a && b) && (c && d)) ≡ ((a && c) && (b && d))
exchange true true c d = refl
exchange true false true d = refl
exchange true false false d = refl
exchange false b c d = refl

all_known : (words : List (List ℕ)) → list_all is_known words ≡ (list_all has_equals words && list_all (λ word. is_name (name_of word)) words)
all_known [] = refl
all_known (word ∷ words) =
    ap (λ k. is_known word && k) (all_known words)
    ∙ ap (λ k. k && (list_all has_equals words && list_all (λ word. is_name (name_of word)) words)) (known_by word)
    ∙ exchange (has_equals word) (is_name (name_of word)) (list_all has_equals words) (list_all (λ word. is_name (name_of word)) words)

first_false : (test : Name → Bool) (names : List Name) → list_all test names ≡ false → (name : Name) × (test name ≡ false)
first_false test [] is = absurd (true≢false is)
first_false test (name ∷ names) is = by_case (and_cases (test name) (list_all test names) is) (λ h. first_false test names h)
  where
    by_case : (test name ≡ false) ⊎ (list_all test names ≡ false) → (list_all test names ≡ false → (name : Name) × (test name ≡ false)) → (name : Name) × (test name ≡ false)
    by_case (inl here) later = (name, here)
    by_case (inr there) later = later there

pub all_false : (test : Name → Bool) (name : Name) → test name ≡ false → list_all test all_names ≡ false
all_false test AppName is = list_all_at test all_names 0 AppName (lit< tt) is
all_false test Own is = list_all_at test all_names 1 Own (lit< tt) is
all_false test Workers is = list_all_at test all_names 2 Workers (lit< tt) is
all_false test Size is = list_all_at test all_names 3 Size (lit< tt) is
all_false test UnitName is = list_all_at test all_names 4 UnitName (lit< tt) is
all_false test ExploreName is = list_all_at test all_names 5 ExploreName (lit< tt) is
all_false test AbortName is = list_all_at test all_names 6 AbortName (lit< tt) is
all_false test PlanName is = list_all_at test all_names 7 PlanName (lit< tt) is
all_false test Seed is = list_all_at test all_names 8 Seed (lit< tt) is
all_false test Events is = list_all_at test all_names 9 Events (lit< tt) is
all_false test Notes is = list_all_at test all_names 10 Notes (lit< tt) is
all_false test Ahead is = list_all_at test all_names 11 Ahead (lit< tt) is
all_false test Watch is = list_all_at test all_names 12 Watch (lit< tt) is
all_false test CheckName is = list_all_at test all_names 13 CheckName (lit< tt) is

-- ---- the values

nothing : {X : Type 0} (o : Option X) → is_some o ≡ false → o ≡ None
nothing None is = refl
nothing (Some x) is = absurd (true≢false is)

-- a value means nothing where nothing is said under a name
other_given : {A : Type 0} (meaning : List ℕ → Option A) (default : A) (o : Option (List ℕ)) → given meaning default o ≡ None → (value : List ℕ) × (o ≡ Some value) × (is_some (meaning value) ≡ false)
other_given meaning default None is = absurd (cc)
other_given meaning default (Some value) is = (value, refl, ap is_some is)

is_number : (range : Range) (value : List ℕ) → is_some (number_in range value) ≡ says_in range value
is_number range value = by_test (value_of value) (says_in range value)
  where
    by_test : (n : ℕ) (t : Bool) → is_some (if t then Some n else None) ≡ t
    by_test n true = refl
    by_test n false = refl

abbrev pub app_or_none : List ℕ → Option (Option App)
app_or_none value = option_map Some (app_in value)

is_app : (value : List ℕ) → is_some (app_or_none value) ≡ is_some (app_in value)
is_app value = by_app (app_in value)
  where
    by_app : (o : Option App) → is_some (option_map Some o) ≡ is_some o
    by_app None = refl
    by_app (Some app) = refl

-- whether an application is said is whether its name is given
app_given : (o : Option (List ℕ)) (said : Option App) → given app_or_none None o ≡ Some said → is_some o ≡ is_some said
app_given None said is = let same : None ≡ said = cc in ap is_some same
app_given (Some value) said is = by_app (app_in value) is
  where
    by_app : (o : Option App) → option_map Some o ≡ Some said → true ≡ is_some said
    by_app None is = absurd (cc)
    by_app (Some app) is = let same : Some app ≡ said = cc in ap is_some same

module _ (words : List (List ℕ)) where
  -- ---- what the words say

  abbrev workers_said : Option ℕ
  workers_said = given_under Workers (number_in worker_counts) 1 words

  abbrev size_said : Option ℕ
  size_said = given_under Size (number_in sizes) 10000 words

  abbrev notes_said : Option Bool
  notes_said = given_under Notes switch_in false words

  abbrev ahead_said : Option ℕ
  ahead_said = given_under Ahead (number_in ahead_counts) 0 words

  abbrev watch_said : Option Bool
  watch_said = given_under Watch switch_in false words

  abbrev check_said : Option Check
  check_said = given_under CheckName check_in Off words

  abbrev auto_said : Option Bool
  auto_said = given_under PlanName auto_in false words

  abbrev unit_said : Option UnitKind
  unit_said = given_under UnitName unit_in Op words

  abbrev explore_said : Option ExploreKind
  explore_said = given_under ExploreName explore_in Strata words

  abbrev abort_said : Option AbortKind
  abort_said = given_under AbortName abort_in Lazy words

  abbrev seed_said : Option ℕ
  seed_said = given_under Seed (number_in seeds) 1 words

  abbrev events_said : Option ℕ
  events_said = given_under Events (number_in event_counts) 1000 words

  abbrev read_said : Option (Option App)
  read_said = app_under AppName words

  abbrev made_said : Option (Option App)
  made_said = app_under Own words

  -- ---- a cause, and no settings

  no_value : {A : Type 0} (name : Name) (meaning : List ℕ → Option A) (default : A) (value : List ℕ) → value_under name words ≡ Some value → is_some (meaning value) ≡ false → given_under name meaning default words ≡ None
  no_value name meaning default value is other = ap (given meaning default) is ∙ nothing (meaning value) other

  by_names : (list_all is_known words && are_once words) ≡ false → settings_of words ≡ None
  by_names is = cond-false (list_all is_known words && are_once words) _ _ is

  by_input : (input_of words >>= λ input. given_with input words) ≡ None → settings_of words ≡ None
  by_input is = by_test (list_all is_known words && are_once words)
    where
      by_test : (t : Bool) → (if t then (input_of words >>= λ input. given_with input words) else None) ≡ None
      by_test true = is
      by_test false = refl

  by_rest : ((input : Input) → given_with input words ≡ None) → settings_of words ≡ None
  by_rest none = by_input (none_after (input_of words) _ none)

  by_planning : planning_of words ≡ None → settings_of words ≡ None
  by_planning is = by_rest (λ input. none_after workers_said _ (λ workers. none_after size_said _ (λ size. none_at (planning_of words) _ is)))

  -- a part of a strategy that is none is given, whether the program chooses or not
  by_part : is_strategy_given words ≡ true → strategy_of words ≡ None → settings_of words ≡ None
  by_part given none = by_planning (none_after auto_said _ by_auto)
    where
      by_auto : (auto : Bool) → planning_by words auto ≡ None
      by_auto true = cond-true (is_strategy_given words) _ _ given
      by_auto false = none_at (strategy_of words) _ none

  -- a seed or a number of events that is none is given, whether the program makes the input or not
  by_made : (is_given Seed words || is_given Events words) ≡ true → ((app : App) → made_input app words ≡ None) → input_of words ≡ None
  by_made given none = none_after read_said _ (λ app. none_after made_said _ (λ self. by_apps app self))
    where
      by_apps : (app self : Option App) → input_by words app self ≡ None
      by_apps (Some app) None = cond-true (is_given Seed words || is_given Events words) _ _ given
      by_apps None (Some app) = none app
      by_apps (Some app) (Some self) = refl
      by_apps None None = refl

  or_true : (a b : Bool) → b ≡ true → (a || b) ≡ true
  or_true true b is = refl
  or_true false b is = is

  or_left : (a b : Bool) → a ≡ true → (a || b) ≡ true
  or_left a b is = ap (λ a. a || b) is

  other_none : (name : Name) (value : List ℕ) → value_under name words ≡ Some value → is_value_of name value ≡ false → settings_of words ≡ None
  other_none AppName value is other =
      by_input (none_at (input_of words) _ (none_at read_said _ (no_value AppName app_or_none None value is (is_app value ∙ other))))
  other_none Own value is other =
      by_input (none_at (input_of words) _ (none_after read_said _ (λ app. none_at made_said _ (no_value Own app_or_none None value is (is_app value ∙ other)))))
  other_none Workers value is other =
      by_rest (λ input. none_at workers_said _ (no_value Workers (number_in worker_counts) 1 value is (is_number worker_counts value ∙ other)))
  other_none Size value is other =
      by_rest (λ input. none_after workers_said _ (λ workers. none_at size_said _ (no_value Size (number_in sizes) 10000 value is (is_number sizes value ∙ other))))
  other_none UnitName value is other =
      by_part (or_left (is_given UnitName words) _ (ap is_some is)) (none_at unit_said _ (no_value UnitName unit_in Op value is other))
  other_none ExploreName value is other =
      by_part (or_true (is_given UnitName words) _ (or_left (is_given ExploreName words) _ (ap is_some is)))
      (none_after unit_said _ (λ unit. none_at explore_said _ (no_value ExploreName explore_in Strata value is other)))
  other_none AbortName value is other =
      by_part (or_true (is_given UnitName words) _ (or_true (is_given ExploreName words) _ (ap is_some is)))
      (none_after unit_said _ (λ unit. none_after explore_said _ (λ explore. none_at abort_said _ (no_value AbortName abort_in Lazy value is other))))
  other_none PlanName value is other = by_planning (none_at auto_said _ (no_value PlanName auto_in false value is other))
  other_none Seed value is other =
      by_input (none_at (input_of words) _ (by_made (or_left (is_given Seed words) _ (ap is_some is))
      (λ app. none_at seed_said _ (no_value Seed (number_in seeds) 1 value is (is_number seeds value ∙ other)))))
  other_none Events value is other =
      by_input (none_at (input_of words) _ (by_made (or_true (is_given Seed words) _ (ap is_some is))
      (λ app. none_after seed_said _ (λ seed. none_at events_said _ (no_value Events (number_in event_counts) 1000 value is (is_number event_counts value ∙ other))))))
  other_none Notes value is other =
      by_rest (λ input. none_after workers_said _ (λ workers. none_after size_said _ (λ size. none_after (planning_of words) _ (λ planning. none_at notes_said _ (no_value Notes switch_in false value is other)))))
  other_none Ahead value is other =
      by_rest (λ input. none_after workers_said _ (λ workers. none_after size_said _ (λ size. none_after (planning_of words) _ (λ planning. none_after notes_said _ (λ notes.
      none_at ahead_said _ (no_value Ahead (number_in ahead_counts) 0 value is (is_number ahead_counts value ∙ other)))))))
  other_none Watch value is other =
      by_rest (λ input. none_after workers_said _ (λ workers. none_after size_said _ (λ size. none_after (planning_of words) _ (λ planning. none_after notes_said _ (λ notes. none_after ahead_said _ (λ ahead.
      none_at watch_said _ (no_value Watch switch_in false value is other)))))))
  other_none CheckName value is other =
      by_rest (λ input. none_after workers_said _ (λ workers. none_after size_said _ (λ size. none_after (planning_of words) _ (λ planning. none_after notes_said _ (λ notes. none_after ahead_said _ (λ ahead. none_after watch_said _ (λ watch.
      none_at check_said _ (no_value CheckName check_in Off value is other))))))))

  both_none : is_given AppName words ≡ true → is_given Own words ≡ true → input_of words ≡ None
  both_none app own = by_apps read_said made_said refl refl
    where
      by_apps : (a b : Option (Option App)) → read_said ≡ a → made_said ≡ b → (a >>= λ app. b >>= λ self. input_by words app self) ≡ None
      by_apps None b a_is b_is = refl
      by_apps (Some None) b a_is b_is = absurd (true≢false (sym app ∙ app_given _ None a_is))
      by_apps (Some (Some x)) None a_is b_is = refl
      by_apps (Some (Some x)) (Some None) a_is b_is = absurd (true≢false (sym own ∙ app_given _ None b_is))
      by_apps (Some (Some x)) (Some (Some y)) a_is b_is = refl

  -- `self` is not given
  not_made : ((app : Option App) → read_said ≡ Some app → input_by words app None ≡ None) → is_given Own words ≡ false → input_of words ≡ None
  not_made none own = by_app read_said refl
    where
      by_app : (a : Option (Option App)) → read_said ≡ a → (a >>= λ app. made_said >>= λ self. input_by words app self) ≡ None
      by_app None a_is = refl
      by_app (Some app) a_is = none_by_some made_said _ None (ap (given app_or_none None) (nothing (value_under Own words) own)) (none app a_is)

  alone_none : (is_given Seed words || is_given Events words) ≡ true → (app : Option App) → input_by words app None ≡ None
  alone_none given None = refl
  alone_none given (Some app) = cond-true (is_given Seed words || is_given Events words) _ _ given

  neither_none : is_given AppName words ≡ false → (app : Option App) → read_said ≡ Some app → input_by words app None ≡ None
  neither_none lacks None is = refl
  neither_none lacks (Some app) is = absurd (true≢false (sym (app_given (value_under AppName words) (Some app) is) ∙ lacks))

  pub none_by : NoSettings words → settings_of words ≡ None
  none_by (no_equals is) =
      by_names (and_left _ _ (all_known words ∙ and_left _ _ is))
  none_by (unknown_name is) =
      by_names (and_left _ _ (all_known words ∙ and_right _ _ is))
  none_by (given_twice name twice) =
      by_names (and_right _ _ (all_false (is_once words) name (lt-leb (count_by (has_name name) words) 1 twice)))
  none_by (other_value name value is other) = other_none name value is other
  none_by (both_inputs app own) = by_input (none_at (input_of words) _ (both_none app own))
  none_by (no_input app own) = by_input (none_at (input_of words) _ (not_made (neither_none app) own))
  none_by (made_alone given own) = by_input (none_at (input_of words) _ (not_made (λ app is. alone_none given app) own))
  none_by (chosen_and_given auto given) = by_planning (none_by_some auto_said _ true auto (cond-true (is_strategy_given words) _ _ given))
  none_by (not_alone ahead watch check a_is v_is c_is both) =
      by_rest (λ input. none_after workers_said _ (λ workers. none_after size_said _ (λ size. none_after (planning_of words) _ (λ planning. none_after notes_said _ (λ notes.
      none_by_some ahead_said _ ahead a_is (none_by_some watch_said _ watch v_is (none_by_some check_said _ check c_is
      (cond-false (is_alone ahead watch check && can_check check workers planning) _ _ (and_left (is_alone ahead watch check) (can_check check workers planning) both)))))))))
  none_by (not_checkable check workers planning c_is w_is p_is cannot) =
      by_rest (λ input. none_by_some workers_said _ workers w_is (none_after size_said _ (λ size. none_by_some (planning_of words) _ planning p_is (none_after notes_said _ (λ notes. none_after ahead_said _ (λ ahead. none_after watch_said _ (λ watch.
      none_by_some check_said _ check c_is
      (cond-false (is_alone ahead watch check && can_check check workers planning) _ _ (and_right (is_alone ahead watch check) (can_check check workers planning) cannot)))))))))

  -- ---- no settings, and a cause

  cause : {A : Type 0} (name : Name) (meaning : List ℕ → Option A) (default : A) → ((value : List ℕ) → is_some (meaning value) ≡ is_value_of name value) → given_under name meaning default words ≡ None → NoSettings words
  cause name meaning default same none =
      let other = other_given meaning default (value_under name words) none in
      other_value name other.0 other.1 (sym (same other.0) ∙ other.2)

  cause_strategy : strategy_of words ≡ None → NoSettings words
  cause_strategy is =
      none_cases unit_said _ is (cause UnitName unit_in Op (λ value. refl)) (λ unit unit_is is.
      none_cases explore_said _ is (cause ExploreName explore_in Strata (λ value. refl)) (λ explore explore_is is.
      none_cases abort_said _ is (cause AbortName abort_in Lazy (λ value. refl)) (λ abort abort_is is. absurd (cc))))

  cause_planning : planning_of words ≡ None → NoSettings words
  cause_planning is = none_cases auto_said _ is (cause PlanName auto_in false (λ value. refl)) by_auto
    where
      by_auto : (auto : Bool) → auto_said ≡ Some auto → planning_by words auto ≡ None → NoSettings words
      by_auto true auto is = chosen_and_given auto (none_unless (is_strategy_given words) Auto is)
      by_auto false auto is = none_cases (strategy_of words) _ is cause_strategy (λ strategy strategy_is is. absurd (cc))

  cause_made : (app : App) → made_input app words ≡ None → NoSettings words
  cause_made app is =
      none_cases seed_said _ is (cause Seed (number_in seeds) 1 (is_number seeds)) (λ seed seed_is is.
      none_cases events_said _ is (cause Events (number_in event_counts) 1000 (is_number event_counts)) (λ events events_is is. absurd (cc)))

  cause_input : input_of words ≡ None → NoSettings words
  cause_input is =
      none_cases read_said _ is (cause AppName app_or_none None is_app) (λ app at is.
      none_cases made_said _ is (cause Own app_or_none None is_app) (λ self own is.
      by_apps app self (app_given (value_under AppName words) app at) (app_given (value_under Own words) self own) is))
    where
      by_apps : (app self : Option App) → is_given AppName words ≡ is_some app → is_given Own words ≡ is_some self → input_by words app self ≡ None → NoSettings words
      by_apps (Some app) None at own is = made_alone (none_unless (is_given Seed words || is_given Events words) _ is) own
      by_apps None (Some app) at own is = cause_made app is
      by_apps (Some app) (Some self) at own is = both_inputs at own
      by_apps None None at own is = no_input at own

  cause_rest : (input : Input) → given_with input words ≡ None → NoSettings words
  cause_rest input is =
      none_cases workers_said _ is (cause Workers (number_in worker_counts) 1 (is_number worker_counts)) (λ workers w_is is.
      none_cases size_said _ is (cause Size (number_in sizes) 10000 (is_number sizes)) (λ size s_is is.
      none_cases (planning_of words) _ is cause_planning (λ planning p_is is.
      none_cases notes_said _ is (cause Notes switch_in false (λ value. refl)) (λ notes n_is is.
      none_cases ahead_said _ is (cause Ahead (number_in ahead_counts) 0 (is_number ahead_counts)) (λ ahead a_is is.
      none_cases watch_said _ is (cause Watch switch_in false (λ value. refl)) (λ watch v_is is.
      none_cases check_said _ is (cause CheckName check_in Off (λ value. refl)) (λ check c_is is.
      elim (and_cases (is_alone ahead watch check) (can_check check workers planning) (none_if (is_alone ahead watch check && can_check check workers planning) _ is)) [
        | inl both ↦ not_alone ahead watch check a_is v_is c_is both
        | inr cannot ↦ not_checkable check workers planning c_is w_is p_is cannot
      ])))))))

  cause_known : (list_all has_equals words ≡ false) ⊎ (list_all (λ word. is_name (name_of word)) words ≡ false) → NoSettings words
  cause_known (inl lacks) = no_equals lacks
  cause_known (inr unknown) = unknown_name unknown

  cause_names : (list_all is_known words ≡ false) ⊎ (are_once words ≡ false) → NoSettings words
  cause_names (inl unknown) =
      cause_known (and_cases (list_all has_equals words) (list_all (λ word. is_name (name_of word)) words) (sym (all_known words) ∙ unknown))
  cause_names (inr twice) =
      let found = first_false (is_once words) all_names twice in
      given_twice found.0 (leb-false (count_by (has_name found.0) words) 1 found.1)

  pub cause_of : settings_of words ≡ None → NoSettings words
  cause_of is = by_tests (cases_Bool (list_all is_known words && are_once words))
    where
      by_tests : ((list_all is_known words && are_once words) ≡ true) ⊎ ((list_all is_known words && are_once words) ≡ false) → NoSettings words
      by_tests (inl named) =
          none_cases (input_of words) _ (sym (cond-true (list_all is_known words && are_once words) _ None named) ∙ is) cause_input (λ input input_is is. cause_rest input is)
      by_tests (inr unnamed) = cause_names (and_cases (list_all is_known words) (are_once words) unnamed)

  -- both, of an answer that is what the words ask for
  pub none_asked : (asked : Option Settings) → asked ≡ settings_of words → (asked ≡ None → NoSettings words) × (NoSettings words → asked ≡ None)
  none_asked asked is = ((λ none. cause_of (sym is ∙ none)), (λ cause. is ∙ none_by cause))
