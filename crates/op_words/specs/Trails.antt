-- Trails: the words that a hand loaded or left, in order
use Rattle.std.specs.Prelude.{◌≡◌, ◌≢◌, ℕ, ◌<◌, ◌≤◌, ◌⊎◌, true, false, if◌then◌else◌, ◌==◌, List, [], ◌∷◌, ◌++◌, Contains}
use Rattle.morph_base.specs.declared.plan.Plan.{Plan}
use Rattle.morph_base.specs.declared.plan.Origin.TheVariants.{Op as Written}
use Rattle.morph_base.specs.declared.word.OpState.TheVariants.{Claimed}
use Rattle.morph_base.specs.declared.word.OpWord.{OpWord}
use Rattle.morph_base.specs.Plans.{InEvent, origin_at}
use Rattle.morph_base.specs.Words.{is_idle, is_settled}
use Rattle.interleaving_core.specs.Core.{blocked, places}
use Rattle.op_words.specs.declared.trail.Item.{Item}

-- The hand loaded word w of operation o
abbrev pub loaded : ℕ → OpWord → Item
loaded o w = record { op = o; word = w; own = false }

-- The hand left word w of operation o by a step of its own
abbrev pub left : ℕ → OpWord → Item
left o w = record { op = o; word = w; own = true }

-- The last word of operation o in a trail, or d if the trail has none
unfoldable pub last_word : ℕ → OpWord → List Item → OpWord
last_word o d [] = d
last_word o d (t ∷ ts) = last_word o (if t.op == o then t.word else d) ts

-- The trail xs has a word of operation o, and the last one is w
pub record HasLast (o : ℕ) (xs : List Item) (w : OpWord) : Type 0 where
  pub is : (d : OpWord) → last_word o d xs ≡ w

-- Operation o was disturbed: a load in xs gave a word of o that differs from the last one before it in xs
pub record IsDisturbed (o : ℕ) (xs : List Item) : Type 0 where
  pub before : List Item
  pub known : OpWord
  pub found : OpWord
  pub rest : List Item
  pub split : xs ≡ before ++ loaded o found ∷ rest
  pub last : HasLast o before known
  pub differs : known ≢ found

-- Operation s is a source of operation o
pub record IsSourceOf (p : Plan) (o s : ℕ) : Type 0 where
  pub place : ℕ
  pub in_places : place < places p o
  pub source_is : origin_at p o place ≡ Written s

-- All words in xs are of sources of operation o
abbrev pub OfSources : Plan → ℕ → List Item → Type 0
OfSources p o xs = (t : Item) → Contains xs t → IsSourceOf p o t.op

-- Each source of operation o has a lower number than o
abbrev pub ComeFirst : Plan → ℕ → Type 0
ComeFirst p o = (s : ℕ) → IsSourceOf p o s → s < o

-- Operation o or one of its sources was disturbed
abbrev pub IsShaken : Plan → ℕ → List Item → Type 0
IsShaken p o xs = IsDisturbed o xs ⊎ ((s : ℕ) × IsSourceOf p o s × IsDisturbed s xs)

-- The item t shows that operation o was reached: it is a word of o other than the first one, or a word of a source of o
-- that has no value yet
pub record IsReachedBy (p : Plan) (o : ℕ) (t : Item) : Type 0 where
  pub cause : ((t.op ≡ o) × (t.word ≢ blocked 1)) ⊎ (IsSourceOf p o t.op × (is_idle t.word.state ≡ true))

-- Operation o was reached in trail xs: one of its items shows so
pub record IsReached (p : Plan) (o : ℕ) (xs : List Item) : Type 0 where
  pub item : Item
  pub inside : Contains xs item
  pub tells : IsReachedBy p o item

-- Each item of the second list stands in the relation P to the list of all items before it, which begins with `pre`
unfoldable pub Along : (List Item → Item → Type 0) → List Item → List Item → Type 0
Along P pre [] = Unit {0}
Along P pre (t ∷ ts) = P pre t × Along P (pre ++ t ∷ []) ts

-- The item t agrees with those before it, in the trail of the hand of this tag: attempts of its operation do not fall,
-- a word that was settled stays, and a loaded word that is claimed is claimed by another hand
pub record IsSteadyAt (tag : ℕ) (pre : List Item) (t : Item) : Type 0 where
  pub attempt : (n : Item) → Contains pre n → n.op ≡ t.op → n.word.attempt ≤ t.word.attempt
  pub settled : (n : Item) → Contains pre n → n.op ≡ t.op → is_settled n.word.state ≡ true → t.word ≡ n.word
  pub claimed : t.own ≡ false → t.word.state ≡ Claimed → t.word.by ≢ tag

-- Each item of a trail agrees with those before it
abbrev pub IsSteadyTrail : ℕ → List Item → List Item → Type 0
IsSteadyTrail tag = Along (IsSteadyAt tag)

-- If a lone root loads the item t, it is the word that the root knew last, and nobody holds the operation
pub record IsCalmAt (pre : List Item) (t : Item) : Type 0 where
  pub known : t.own ≡ false → t.word ≡ last_word t.op (blocked 1) pre
  pub free : t.own ≡ false → t.word.state ≢ Claimed

-- Each item that a lone root loads is the word that it knew last, and nobody holds the operation
abbrev pub IsCalm : List Item → List Item → Type 0
IsCalm = Along IsCalmAt

-- All own steps in xs are on operation o
abbrev pub OwnOn : ℕ → List Item → Type 0
OwnOn o xs = (t : Item) → Contains xs t → t.own ≡ true → t.op ≡ o

-- All own steps in xs are on operations of event i
abbrev pub OwnIn : Plan → ℕ → List Item → Type 0
OwnIn p i xs = (t : Item) → Contains xs t → t.own ≡ true → InEvent p i t.op

-- No own step in xs settled an operation
abbrev pub OwnOpen : List Item → Type 0
OwnOpen xs = (t : Item) → Contains xs t → t.own ≡ true → is_settled t.word.state ≡ false

-- There is no own step in xs
abbrev pub NoneOwn : List Item → Type 0
NoneOwn xs = (t : Item) → Contains xs t → t.own ≡ false
