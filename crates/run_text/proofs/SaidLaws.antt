-- Settings are what the words say that ask for them.
use Rattle.std.proofs.Common.{◌≡◌, ℕ, suc, ◌+◌, ◌≤◌, ◌⊎◌, inl, inr, Bool, true, false, List, [], ◌∷◌, ◌++◌, length, take, drop, Option, Some, None, refl, ap, sym, ◌∙◌, subst, arith, append_assoc, length-append}
use Rattle.std.specs.Prelude.{◌&&◌, ◌||◌, All, Contains, count_by, nat_le, is_some, option_map, if◌then◌else◌}
use Rattle.std.specs.List.{list_all, list_any}
use Rattle.std.specs.Str.{bytes_eq}
use Rattle.std.proofs.lemmas.Bool.{and_parts, or_parts, cases_Bool, true≢false}
use Rattle.std.proofs.lemmas.Bool.Decides.{nat_tests}
use Rattle.std.proofs.lemmas.List.{take-append-drop}
use Rattle.std.proofs.lemmas.List.Elements.{All-nil, All-cons}
use Rattle.std.proofs.lemmas.Option.{option_and_then_some, same_Some}
use Rattle.std.proofs.lemmas.Slice.Eq.{bytes_eq-Decides}
use Rattle.morph_base.specs.declared.strategy.Strategy.{Strategy}
use Rattle.morph_base.specs.declared.strategy.Unit.TheVariants.{Op}
use Rattle.morph_base.specs.declared.strategy.Explore.TheVariants.{Strata}
use Rattle.morph_base.specs.declared.strategy.Abort.TheVariants.{Lazy}
use Rattle.run_text.specs.declared.choices.App.{App}
use Rattle.run_text.specs.declared.choices.Check.TheVariants.{Off}
use Rattle.run_text.specs.declared.choices.Planning.{Planning}
use Rattle.run_text.specs.declared.choices.Planning.TheVariants.{Fixed}
use Rattle.run_text.specs.declared.choices.Settings.{Settings}
use Rattle.run_text.specs.declared.names.Name.{Name}
use Rattle.run_text.specs.declared.names.Name.TheVariants.{App as AppName, Own, Workers, Size, Unit as UnitName, Explore as ExploreName, Abort as AbortName, Plan as PlanName, Seed, Events, Notes, Ahead, Watch, Check as CheckName}
use Rattle.run_text.specs.declared.read_settings.Input.{Input}
use Rattle.run_text.specs.Words.{text_of, all_names, has_name, value_in, is_known, is_once, are_once, value_under, is_given}
use Rattle.run_text.specs.Values.{app_in, switch_in, unit_in, explore_in, abort_in, auto_in, check_in, worker_counts, sizes, seeds, event_counts, ahead_counts, number_in, given, given_under, app_under}
use Rattle.run_text.specs.Settings.{strategy_of, is_strategy_given, planning_by, planning_of, read_input, made_input, input_by, input_of, is_alone, can_check, settings_of}
use Rattle.run_text.specs.SaidSettings.{word_of, SaysValue, IsMissing, IsSaid, IsRead, IsInputMade, IsFixed, IsChosen, AreSaid}
use Rattle.run_text.proofs.NoSettingsLaws.{all_false, app_or_none}
use Rattle.run_text.proofs.Parts.{some_if, some_unless}
use Rattle.run_text.proofs.WordLaws.{named}

-- a word with a name is the name, an `=` and the value
word_is : (name : Name) (word : List ℕ) → has_name name word ≡ true → word ≡ word_of name (value_in name word)
word_is name word has =
    let front = text_of name ++ 61 ∷ [] in
    let begins : bytes_eq (take (length front) word) front ≡ true = named name word ∙ has in
    let same : take (length front) word ≡ front = equal (take (length front) word) front begins in
    let many : length front ≡ length (text_of name) + 1 = length-append (text_of name) (61 ∷ []) in
    sym (take-append-drop (length front) word) ∙ ap (λ l. l ++ drop (length front) word) same
    ∙ ap (λ n. front ++ drop n word) many ∙ append_assoc (text_of name) (61 ∷ []) (value_in name word)
  where
    equal : (xs ys : List ℕ) → bytes_eq xs ys ≡ true → xs ≡ ys
    equal xs ys is = (bytes_eq-Decides xs ys).0 is

-- what words give under a name: nothing where no word has it, and else the value of a word
abbrev Finds : List (List ℕ) → Name → Option (List ℕ) → Type 0
Finds words name None = IsMissing words name
Finds words name (Some value) = Contains words (word_of name value)

finds_more : (word : List ℕ) (words : List (List ℕ)) (name : Name) → has_name name word ≡ false → (o : Option (List ℕ)) → Finds words name o → Finds (word ∷ words) name o
finds_more word words name other None missing = All-cons (λ word. has_name name word ≡ false) word words other missing
finds_more word words name other (Some value) (k, inside, is) = (suc k, omega (arith, inside), is)

finds_one : (word : List ℕ) (words : List (List ℕ)) (name : Name) (t : Bool) → has_name name word ≡ t → Finds words name (value_under name words)
    → Finds (word ∷ words) name (if t then Some (value_in name word) else value_under name words)
finds_one word words name true has later = (0, omega arith, word_is name word has)
finds_one word words name false other later = finds_more word words name other (value_under name words) later

finds : (words : List (List ℕ)) (name : Name) → Finds words name (value_under name words)
unfolding value_under
finds [] name = All-nil (λ word. has_name name word ≡ false)
finds (word ∷ words) name = finds_one word words name (has_name name word) refl (finds words name)

missing : (words : List (List ℕ)) (name : Name) → is_given name words ≡ false → IsMissing words name
missing words name none = by_value (value_under name words) (finds words name) none
  where
    by_value : (o : Option (List ℕ)) → Finds words name o → is_some o ≡ false → IsMissing words name
    by_value None found none = found
    by_value (Some value) found none = absurd (cc)

-- ---- each word has a name, and no two the same

abbrev IsNamed : List ℕ → Type 0
IsNamed word = (name : Name) × (value : List ℕ) × (word ≡ word_of name value)

some_name : (word : List ℕ) (names : List Name) → list_any (λ name. has_name name word) names ≡ true → IsNamed word
some_name word [] none = absurd (cc)
some_name word (name ∷ names) any = by_test (has_name name word) refl any (λ any. some_name word names any)
  where
    by_test : (t : Bool) → has_name name word ≡ t → (t || list_any (λ name. has_name name word) names) ≡ true → (list_any (λ name. has_name name word) names ≡ true → IsNamed word) → IsNamed word
    by_test true has any later = (name, value_in name word, word_is name word has)
    by_test false other any later = later any

all_named : (words : List (List ℕ)) → list_all is_known words ≡ true → All (λ word. (name : Name) × (value : List ℕ) × (word ≡ word_of name value)) words
all_named [] known = All-nil (λ word. (name : Name) × (value : List ℕ) × (word ≡ word_of name value))
all_named (word ∷ words) known =
    let parts = and_parts (is_known word) (list_all is_known words) known in
    All-cons (λ word. (name : Name) × (value : List ℕ) × (word ≡ word_of name value)) word words (some_name word all_names parts.0) (all_named words parts.1)

once : (test : Name → Bool) → list_all test all_names ≡ true → (name : Name) → test name ≡ true
once test all name = by_test (cases_Bool (test name))
  where
    by_test : (test name ≡ true) ⊎ (test name ≡ false) → test name ≡ true
    by_test (inl is) = is
    by_test (inr other) = absurd (true≢false (sym all ∙ all_false test name other))

at_most_one : (count : ℕ) → nat_le count 1 ≡ true → count ≤ 1
at_most_one count is = grind (arith, nat_tests)

-- ---- a value that is given, or a default

said_by : {A : Type 0} (words : List (List ℕ)) (name : Name) (meaning : List ℕ → Option A) (default x : A) (o : Option (List ℕ)) → Finds words name o → given meaning default o ≡ Some x
    → IsSaid words name meaning default x
said_by words name meaning default x None none is = inr (none, let same : default ≡ x = cc in sym same)
said_by words name meaning default x (Some value) has is = inl (value, has, is)

said : {A : Type 0} (words : List (List ℕ)) (name : Name) (meaning : List ℕ → Option A) (default x : A) → given_under name meaning default words ≡ Some x → IsSaid words name meaning default x
said words name meaning default x is = said_by words name meaning default x (value_under name words) (finds words name) is

-- ---- the input

app_said : (words : List (List ℕ)) (name : Name) (app : App) → app_under name words ≡ Some (Some app) → SaysValue words name app_in app
app_said words name app is = by_said (said words name app_or_none None (Some app) is)
  where
    by_app : (o : Option App) → option_map Some o ≡ Some (Some app) → o ≡ Some app
    by_app None is = absurd (cc)
    by_app (Some other) is = let same : other ≡ app = cc in ap Some same

    by_said : IsSaid words name app_or_none None (Some app) → SaysValue words name app_in app
    by_said (inl (value, has, means)) = (value, has, by_app (app_in value) means)
    by_said (inr none) = let never = none.1 in absurd (cc)

app_missing : (words : List (List ℕ)) (name : Name) → app_under name words ≡ Some None → IsMissing words name
app_missing words name is = by_said (said words name app_or_none None None is)
  where
    by_app : (o : Option App) → option_map Some o ≡ Some None → IsMissing words name
    by_app None is = absurd (cc)
    by_app (Some app) is = absurd (cc)

    by_said : IsSaid words name app_or_none None None → IsMissing words name
    by_said (inl (value, has, means)) = by_app (app_in value) means
    by_said (inr none) = none.0

abbrev InputOf : List (List ℕ) → Input → Type 0
InputOf words input = IsRead words input.app input.generated ⊎ IsInputMade words input.app input.generated

input_said : (words : List (List ℕ)) (input : Input) → input_of words ≡ Some input → InputOf words input
input_said words input is =
    option_and_then_some _ (app_under AppName words) input is (λ app at is.
    option_and_then_some _ (app_under Own words) input is (λ self own is. by_apps app self at own is))
  where
    by_read : (app : App) → app_under AppName words ≡ Some (Some app) → app_under Own words ≡ Some None → read_input app words ≡ Some input → InputOf words input
    by_read app at own is =
        let parts = some_unless (is_given Seed words || is_given Events words) _ input is in
        let none = or_parts (is_given Seed words) (is_given Events words) parts.0 in
        let same : record { app = app; generated = None } ≡ input = same_Some _ _ parts.1 in
        subst (InputOf words) same
        (inl (record { app_is = app_said words AppName app at; none = refl; not_made = app_missing words Own own; no_seed = missing words Seed none.0; no_events = missing words Events none.1 }))

    by_made : (app : App) → app_under AppName words ≡ Some None → app_under Own words ≡ Some (Some app) → made_input app words ≡ Some input → InputOf words input
    by_made app at own is =
        option_and_then_some _ (given_under Seed (number_in seeds) 1 words) input is (λ seed seed_is is.
        option_and_then_some _ (given_under Events (number_in event_counts) 1000 words) input is (λ events events_is is.
        let same : record { app = app; generated = Some (record { seed = seed; events = events }) } ≡ input = same_Some _ _ is in
        subst (InputOf words) same
        (inr (record {
          app_is = app_said words Own app own;
          not_read = app_missing words AppName at;
          made = record { seed = seed; events = events };
          some = refl;
          seed = said words Seed (number_in seeds) 1 seed seed_is;
          events = said words Events (number_in event_counts) 1000 events events_is;
        }))))

    by_apps : (app self : Option App) → app_under AppName words ≡ Some app → app_under Own words ≡ Some self → input_by words app self ≡ Some input → InputOf words input
    by_apps (Some app) None at own is = by_read app at own is
    by_apps None (Some app) at own is = by_made app at own is
    by_apps (Some app) (Some other) at own is = absurd (cc)
    by_apps None None at own is = absurd (cc)

-- ---- the strategy

abbrev PlanningOf : List (List ℕ) → Planning → Type 0
PlanningOf words planning = IsFixed words planning ⊎ IsChosen words planning

planning_said : (words : List (List ℕ)) (planning : Planning) → planning_of words ≡ Some planning → PlanningOf words planning
planning_said words planning is = option_and_then_some _ (given_under PlanName auto_in false words) planning is by_auto
  where
    says_auto : IsSaid words PlanName auto_in false true → SaysValue words PlanName auto_in true
    says_auto (inl says) = says
    says_auto (inr none) = let never = none.1 in absurd (cc)

    by_strategy : given_under PlanName auto_in false words ≡ Some false → (strategy : Strategy) → strategy_of words ≡ Some strategy → Fixed strategy ≡ planning → PlanningOf words planning
    by_strategy auto strategy is same =
        option_and_then_some _ (given_under UnitName unit_in Op words) strategy is (λ u unit is.
        option_and_then_some _ (given_under ExploreName explore_in Strata words) strategy is (λ e explore is.
        option_and_then_some _ (given_under AbortName abort_in Lazy words) strategy is (λ a abort is.
        inl (record {
          strategy = record { unit = u; explore = e; abort = a };
          fixed = sym (ap Fixed (same_Some _ _ is) ∙ same);
          plan = said words PlanName auto_in false false auto;
          unit = said words UnitName unit_in Op u unit;
          explore = said words ExploreName explore_in Strata e explore;
          abort = said words AbortName abort_in Lazy a abort;
        }))))

    by_auto : (auto : Bool) → given_under PlanName auto_in false words ≡ Some auto → planning_by words auto ≡ Some planning → PlanningOf words planning
    by_auto true auto is =
        let parts = some_unless (is_strategy_given words) _ planning is in
        let none = or_parts (is_given UnitName words) (is_given ExploreName words || is_given AbortName words) parts.0 in
        let more = or_parts (is_given ExploreName words) (is_given AbortName words) none.1 in
        inr (record {
          auto = sym (same_Some _ _ parts.1);
          plan = says_auto (said words PlanName auto_in false true auto);
          no_unit = missing words UnitName none.0;
          no_explore = missing words ExploreName more.0;
          no_abort = missing words AbortName more.1;
        })
    by_auto false auto is =
        option_and_then_some _ (strategy_of words) planning is (λ strategy strategy_is is. by_strategy auto strategy strategy_is (same_Some _ _ is))

-- ---- all of them

pub settings_said : (words : List (List ℕ)) (s : Settings) → settings_of words ≡ Some s → AreSaid words s
settings_said words s is =
    let checked = some_if (list_all is_known words && are_once words) _ s is in
    let names = and_parts (list_all is_known words) (are_once words) checked.0 in
    option_and_then_some _ (input_of words) s checked.1 (λ i i_is is.
    option_and_then_some _ (given_under Workers (number_in worker_counts) 1 words) s is (λ w w_is is.
    option_and_then_some _ (given_under Size (number_in sizes) 10000 words) s is (λ z z_is is.
    option_and_then_some _ (planning_of words) s is (λ p p_is is.
    option_and_then_some _ (given_under Notes switch_in false words) s is (λ n n_is is.
    option_and_then_some _ (given_under Ahead (number_in ahead_counts) 0 words) s is (λ a a_is is.
    option_and_then_some _ (given_under Watch switch_in false words) s is (λ v v_is is.
    option_and_then_some _ (given_under CheckName check_in Off words) s is (λ c c_is is.
    let same = same_Some _ _ (some_if (is_alone a v c && can_check c w p) _ s is).1 in
    subst (AreSaid words) same (record {
      known = all_named words names.0;
      once = λ name. at_most_one (count_by (has_name name) words) (once (is_once words) names.1 name);
      input = input_said words i i_is;
      planning = planning_said words p p_is;
      workers = said words Workers (number_in worker_counts) 1 w w_is;
      size = said words Size (number_in sizes) 10000 z z_is;
      notes = said words Notes switch_in false n n_is;
      ahead = said words Ahead (number_in ahead_counts) 0 a a_is;
      watch = said words Watch switch_in false v v_is;
      check = said words CheckName check_in Off c c_is;
    })))))))))
