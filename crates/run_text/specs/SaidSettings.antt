-- What settings are by the words that ask for them. Each one is what the value of its word says, or its default if no
-- word has its name
use Rattle.std.specs.Prelude.{◌≡◌, ℕ, ◌≤◌, ◌⊎◌, true, false, All, Contains, List, ◌∷◌, ◌++◌, count_by, Option, Some, None}
use Rattle.morph_base.specs.declared.strategy.Strategy.{Strategy}
use Rattle.morph_base.specs.declared.strategy.Unit.TheVariants.{Op}
use Rattle.morph_base.specs.declared.strategy.Explore.TheVariants.{Strata}
use Rattle.morph_base.specs.declared.strategy.Abort.TheVariants.{Lazy}
use Rattle.run_text.specs.declared.choices.App.{App}
use Rattle.run_text.specs.declared.choices.Check.TheVariants.{Off}
use Rattle.run_text.specs.declared.choices.Generated.{Generated}
use Rattle.run_text.specs.declared.choices.Planning.{Planning}
use Rattle.run_text.specs.declared.choices.Planning.TheVariants.{Fixed, Auto}
use Rattle.run_text.specs.declared.choices.Settings.{Settings}
use Rattle.run_text.specs.declared.names.Name.{Name}
use Rattle.run_text.specs.declared.names.Name.TheVariants.{App as AppName, Own, Workers, Size, Unit as UnitName, Explore as ExploreName, Abort as AbortName, Plan as PlanName, Seed, Events, Notes, Ahead, Watch, Check as CheckName}
use Rattle.run_text.specs.Words.{text_of, has_name}
use Rattle.run_text.specs.Values.{app_in, switch_in, unit_in, explore_in, abort_in, auto_in, check_in, number_in, worker_counts, sizes, seeds, event_counts, ahead_counts}

-- The word that gives a value under a name: `name=value`
abbrev pub word_of : Name → (value : List ℕ) → List ℕ
word_of name value = text_of name ++ 61 ∷ value

-- One of the words gives a value under the name, and that value says x
abbrev pub SaysValue : {A : Type 0} → List (List ℕ) → Name → (meaning : List ℕ → Option A) → A → Type 0
SaysValue words name meaning x = (value : List ℕ) × Contains words (word_of name value) × (meaning value ≡ Some x)

-- No word has the name
abbrev pub IsMissing : List (List ℕ) → Name → Type 0
IsMissing words name = All (λ word. has_name name word ≡ false) words

-- The setting x is what the word with its name says, or the default if no word has the name
abbrev pub IsSaid : {A : Type 0} → List (List ℕ) → Name → (meaning : List ℕ → Option A) → (default x : A) → Type 0
IsSaid words name meaning default x = SaysValue words name meaning x ⊎ (IsMissing words name × (x ≡ default))

-- The input is read, for the application that `app` says
pub record IsRead (words : List (List ℕ)) (app : App) (generated : Option Generated) : Type 0 where
  pub app_is : SaysValue words AppName app_in app
  pub none : generated ≡ None
  pub not_made : IsMissing words Own
  pub no_seed : IsMissing words Seed
  pub no_events : IsMissing words Events

-- The program makes the input, for the application that `self` says, with the seed and the number of events that are
-- said
pub record IsInputMade (words : List (List ℕ)) (app : App) (generated : Option Generated) : Type 0 where
  pub app_is : SaysValue words Own app_in app
  pub not_read : IsMissing words AppName
  pub made : Generated
  pub some : generated ≡ Some made
  pub seed : IsSaid words Seed (number_in seeds) 1 made.seed
  pub events : IsSaid words Events (number_in event_counts) 1000 made.events

-- One strategy is given for all batches, each part of it said or its default
pub record IsFixed (words : List (List ℕ)) (planning : Planning) : Type 0 where
  pub strategy : Strategy
  pub fixed : planning ≡ Fixed strategy
  pub plan : IsSaid words PlanName auto_in false false
  pub unit : IsSaid words UnitName unit_in Op strategy.unit
  pub explore : IsSaid words ExploreName explore_in Strata strategy.explore
  pub abort : IsSaid words AbortName abort_in Lazy strategy.abort

-- The program chooses the strategies, and no part of one is given
pub record IsChosen (words : List (List ℕ)) (planning : Planning) : Type 0 where
  pub auto : planning ≡ Auto
  pub plan : SaysValue words PlanName auto_in true
  pub no_unit : IsMissing words UnitName
  pub no_explore : IsMissing words ExploreName
  pub no_abort : IsMissing words AbortName

-- The settings are what the words say: each word is `name=value` with one of the names, no two words have the same
-- name, and each setting is what its word says, or its default
pub record AreSaid (words : List (List ℕ)) (s : Settings) : Type 0 where
  pub known : All (λ word. (name : Name) × (value : List ℕ) × (word ≡ word_of name value)) words
  pub once : (name : Name) → count_by (has_name name) words ≤ 1
  pub input : IsRead words s.app s.generated ⊎ IsInputMade words s.app s.generated
  pub planning : IsFixed words s.planning ⊎ IsChosen words s.planning
  pub workers : IsSaid words Workers (number_in worker_counts) 1 s.workers
  pub size : IsSaid words Size (number_in sizes) 10000 s.size
  pub notes : IsSaid words Notes switch_in false s.notes
  pub ahead : IsSaid words Ahead (number_in ahead_counts) 0 s.ahead
  pub watch : IsSaid words Watch switch_in false s.watch
  pub check : IsSaid words CheckName check_in Off s.check
