-- A state kept as one flat list of values, table after table
use Rattle.std.specs.Prelude.{◌≡◌, ℕ, ◌+◌, ◌*◌, ◌≤◌, Bool, ◌&&◌, nat_lt, if◌then◌else◌, List, [], ◌∷◌, length, All, slice_index}
use Rattle.morph_base.specs.declared.limits.TheConstants.{MAX}
use Rattle.morph_base.specs.declared.key.Key.{Key}
use Rattle.morph_base.specs.declared.key.Layout.{Layout}
use Rattle.morph_base.specs.Operations.{same_key}
use Rattle.morph_base.specs.States.{State}

-- The place of a key's value: table after table, and by id within a table
abbrev pub place_of : Layout → Key → ℕ
place_of layout key = key.table * layout.size + key.id

-- The test whether the key is in the layout, as `InLayout` says
abbrev pub is_in_layout : Layout → Key → Bool
is_in_layout layout key = nat_lt key.table layout.tables && nat_lt key.id layout.size

-- The state that a flat list of values stands for. It has 0 at every key outside the layout
unfoldable pub state_in : Layout → List ℕ → State
state_in layout values key = if is_in_layout layout key then slice_index values (place_of layout key) else 0

-- There is a value for each key of the layout, and each is at most MAX
pub record AreValues (layout : Layout) (values : List ℕ) : Type 0 where
  pub len : length values ≡ layout.tables * layout.size
  pub small : All (λ v. v ≤ MAX) values

-- What contracts see of `Values`: a layout, and the flat list of its values
pub record Kept : Type 0 where
  pub layout : Layout
  pub values : List ℕ

-- The values are those of the layout
abbrev pub AreKept : Kept → Type 0
AreKept k = AreValues k.layout k.values

-- The state that the layout and the values stand for
abbrev pub contents : Kept → State
contents k = state_in k.layout k.values

-- The state with the value v at the key
abbrev pub with_value : State → Key → ℕ → State
with_value s key v k = if same_key key k then v else s k

-- The state with the values put at the keys. If a key comes twice, its first value stands
unfoldable pub put_all : State → List Key → List ℕ → State
put_all s [] vs k = s k
put_all s (key ∷ keys) [] k = s k
put_all s (key ∷ keys) (v ∷ vs) k = if same_key key k then v else put_all s keys vs k
