-- Inside the crate: the results of the single steps of a hand
use Rattle.std.specs.Prelude.{◌≡◌, ◌≢◌, ℕ, ◌≤◌, ◌<◌, Bool, true, false, List, Contains, Option, Some, None}
use Rattle.morph_base.specs.declared.limits.TheConstants.{MAX}
use Rattle.morph_base.specs.declared.plan.Plan.{Plan}
use Rattle.morph_base.specs.declared.plan.Origin.TheVariants.{Op as Written}
use Rattle.morph_base.specs.declared.word.OpWord.{OpWord}
use Rattle.morph_base.specs.Plans.{origin_at}
use Rattle.morph_base.specs.Words.{is_idle, packed}
use Rattle.op_words.specs.declared.answers.Stop.{Stop}
use Rattle.op_words.specs.declared.trail.Item.{Item}
use Rattle.op_words.specs.declared.trail.View.{View}
use Rattle.op_words.specs.Trails.{loaded, left, IsSourceOf}
use Rattle.op_words.specs.Views.{Adds, looking, looked, fetching, recalling, learning}
use Rattle.op_words.specs.Calls.{Elsewhere}
use Rattle.op_words.specs.Plays.{Looks, Leaves, IsDecision}
use Rattle.op_words.specs.Hands.{plan_of, view_of, HandCall, IsHandOf}

-- Word w of operation o was loaded, or found by an exchange
pub record Looked (c : HandCall) (o : ℕ) (w : OpWord) : Type 0 where
  pub hand : IsHandOf c.board c.after
  pub view : view_of c.after ≡ looked o w (view_of c.before)
  pub tells : Looks o (packed w) (view_of c.before) w

-- The hand left the item t, and its view is u afterwards
pub record Left (c : HandCall) (u : View) (t : Item) : Type 0 where
  pub hand : IsHandOf c.board c.after
  pub view : view_of c.after ≡ u
  pub tells : Leaves (view_of c.before) u t

-- The exchange on operation o left word w, so that the view is u, or it found another word than the first one, which it
-- expected
abbrev pub Swapped : HandCall → ℕ → OpWord → View → OpWord → Option OpWord → Type 0
Swapped c o first u w None = Left c u (left o w)
Swapped c o first u w (Some found) = (found ≢ first) × Looked c o found

-- Words of other operations than o were loaded, and perhaps records and decisions
pub record IsWalk (c : HandCall) (o : ℕ) (xs : List Item) : Type 0 where
  pub hand : IsHandOf c.board c.after
  pub adds : Adds (view_of c.before) (view_of c.after) xs
  pub elsewhere : Elsewhere o xs
  pub claim : (view_of c.after).claim ≡ (view_of c.before).claim
  pub events : (view_of c.after).events ≡ (view_of c.before).events

-- The record of operation o at place j was loaded, and has the value x
pub record Recalled (c : HandCall) (o j : ℕ) (x : ℕ) : Type 0 where
  pub hand : IsHandOf c.board c.after
  pub view : view_of c.after ≡ recalling o j x (view_of c.before)
  pub small : x ≤ MAX

-- The decision d on event i was loaded
pub record Learned (c : HandCall) (i : ℕ) (d : Option Bool) : Type 0 where
  pub hand : IsHandOf c.board c.after
  pub view : view_of c.after ≡ learning i d (view_of c.before)
  pub tells : IsDecision (plan_of c.board) (view_of c.before) i d

-- ---- the sources of an operation, loaded place by place

-- Words of other operations than o were loaded, and nothing else
pub record IsRow (c : HandCall) (o : ℕ) (xs : List Item) : Type 0 where
  pub hand : IsHandOf c.board c.after
  pub adds : Adds (view_of c.before) (view_of c.after) xs
  pub view : view_of c.after ≡ looking xs (view_of c.before)
  pub elsewhere : Elsewhere o xs

-- The source of operation o at place j was loaded with a value, if it is an operation
abbrev pub HasValueAt : Plan → ℕ → ℕ → List Item → Type 0
HasValueAt p o j xs =
    (s : ℕ) → origin_at p o j ≡ Written s → (z : OpWord) × Contains xs (loaded s z) × (is_idle z.state ≡ false)

-- The source of operation o at place j was loaded without a value
pub record IsIdleAt (p : Plan) (o j : ℕ) (xs : List Item) (stop : Stop) : Type 0 where
  pub source_is : origin_at p o j ≡ Written stop.source
  pub inside : Contains xs (loaded stop.source stop.word)
  pub idle : is_idle stop.word.state ≡ true

-- The source at place j was loaded with a value, or the answer is the source with its word that has none
abbrev pub PlaceIsSought : Plan → ℕ → ℕ → List Item → Option Stop → Type 0
PlaceIsSought p o j xs None = HasValueAt p o j xs
PlaceIsSought p o j xs (Some stop) = IsIdleAt p o j xs stop

-- The source of operation o at place j was loaded, and this is the answer
pub record SoughtAt (c : HandCall) (p : Plan) (o j : ℕ) (r : Option Stop) : Type 0 where
  pub words : List Item
  pub row : IsRow c o words
  pub tells : PlaceIsSought p o j words r

-- Each source of operation o was loaded with a value, or the answer is one that was loaded without
abbrev pub SoughtTells : Plan → ℕ → List Item → Option Stop → Type 0
SoughtTells p o xs None =
    (s : ℕ) → IsSourceOf p o s → (z : OpWord) × Contains xs (loaded s z) × (is_idle z.state ≡ false)
SoughtTells p o xs (Some stop) =
    IsSourceOf p o stop.source × Contains xs (loaded stop.source stop.word) × (is_idle stop.word.state ≡ true)

-- The sources of operation o were loaded, and this is the answer
pub record Sought (c : HandCall) (p : Plan) (o : ℕ) (r : Option Stop) : Type 0 where
  pub words : List Item
  pub row : IsRow c o words
  pub tells : SoughtTells p o words r

-- The sources of operation o at the places before j were loaded with a value
pub record IsSoughtUpTo (c : HandCall) (p : Plan) (o j : ℕ) : Type 0 where
  pub words : List Item
  pub row : IsRow c o words
  pub values : (k : ℕ) → k < j → HasValueAt p o k words

-- ---- the next place of what is held

-- The next place of the held operation got the value x
pub record IsPlaceKept (c : HandCall) (o a : ℕ) (xs : List ℕ) (x : ℕ) : Type 0 where
  pub hand : IsHandOf c.board c.after
  pub view : view_of c.after ≡ fetching (record { op = o; attempt = a; values = xs }) x (view_of c.before)
