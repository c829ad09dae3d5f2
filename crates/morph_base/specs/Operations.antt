-- What an operation reads, and which operations have a valid shape
use Rattle.std.specs.Prelude.{◌≡◌, ℕ, ◌-◌, ◌≤◌, ◌<◌, ◌⊎◌, Bool, ◌&&◌, ◌==◌, List, ◌∷◌, ◌++◌, take, replicate, length, slice_index_or}
use Rattle.morph_base.specs.declared.limits.TheConstants.{FIRST_MAX, MAX, PARAMS, READS}
use Rattle.morph_base.specs.declared.key.Key.{Key}
use Rattle.morph_base.specs.declared.key.Layout.{Layout}
use Rattle.morph_base.specs.declared.operation.Func.{Func}
use Rattle.morph_base.specs.declared.operation.Func.TheVariants.{Keep, Add, Sub, MoveIn, Sum, Blend, Set, Enter, Charge}
use Rattle.morph_base.specs.declared.operation.Op.{Op}

-- The test whether two keys have the same table and the same id
abbrev pub same_key : Key → Key → Bool
same_key a b = (a.table == b.table) && (a.id == b.id)

-- The key with table 0 and id 0, which fills the places that an operation does not use
abbrev pub no_key : Key
no_key = record { table = 0; id = 0 }

-- The operation that is read past the end of a list of operations
abbrev pub no_op : Op
no_op = record { key = no_key; params = replicate PARAMS no_key; n_params = 0; func = Keep; c = 0; low = 0; high = MAX }

-- The greatest value of some operations: that of the first one, or MAX if there is none
abbrev pub high_in : List Op → ℕ
high_in ops = (slice_index_or ops 0 no_op).high

-- The number `high` is the greatest value of a version: FIRST_MAX or MAX
abbrev pub IsLimit : ℕ → Type 0
IsLimit high = (high ≡ FIRST_MAX) ⊎ (high ≡ MAX)

-- The least number of parameters that a function takes
abbrev pub least_params : Func → ℕ
least_params Keep = 0
least_params Add = 0
least_params Sub = 0
least_params MoveIn = 1
least_params Sum = 1
least_params Blend = 0
least_params Set = 0
least_params Enter = 1
least_params Charge = 2

-- The greatest number of parameters that a function takes: PARAMS for `Sum`, and for the others the least number
abbrev pub most_params : Func → ℕ
most_params Sum = PARAMS
most_params f = least_params f

-- The operation of version 1 with this function, target, parameters and constant. It has no floor, FIRST_MAX as its
-- greatest value, and `no_key` in the places that it does not use
abbrev pub op_of : Func → Key → List Key → (c : ℕ) → Op
op_of func key params c =
    record { key = key; params = params ++ replicate (PARAMS - length params) no_key; n_params = length params; func = func; c = c; low = 0; high = FIRST_MAX }

-- The operation with the floor `low` and the greatest value `high`
abbrev pub limited_to : (low high : ℕ) → Op → Op
limited_to low high op = record op { low = low; high = high }

-- The keys that an operation reads, place by place: its target, then its parameters
abbrev pub reads : Op → List Key
reads op = op.key ∷ take op.n_params op.params

-- The operation has as many parameters as its function takes. Its constant and its floor are at most its greatest
-- value, which is that of a version, and its unused places hold `no_key`
pub record IsShaped (op : Op) : Type 0 where
  pub at_least : least_params op.func ≤ op.n_params
  pub at_most : op.n_params ≤ most_params op.func
  pub places : op.n_params < READS
  pub held : op.n_params ≤ length op.params
  pub constant : op.c ≤ op.high
  pub floor : op.low ≤ op.high
  pub limit : IsLimit op.high
  pub blank : (j : ℕ) (d : Key) → op.n_params ≤ j → j < length op.params → slice_index_or op.params j d ≡ no_key

-- The key's table is one of the layout's tables, and its id is below the layout's size
pub record InLayout (layout : Layout) (key : Key) : Type 0 where
  pub table : key.table < layout.tables
  pub id : key.id < layout.size
