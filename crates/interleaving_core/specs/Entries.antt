-- Inside the crate: the entries that were shown, by number, and what is sought among those of an operation
use Rattle.std.specs.Prelude.{◌≡◌, ◌≢◌, ℕ, Bool, true, false, ◌==◌, not, List, Contains, slice_index_or}
use Rattle.interleaving_core.specs.declared.entry.Entry.{Entry}
use Rattle.interleaving_core.specs.declared.state.published.Sought.{Sought}
use Rattle.interleaving_core.specs.declared.state.published.Sought.TheVariants.{Value, ValueBesides, Failure}

-- The entry past the end of a list
abbrev pub no_entry : Entry
no_entry = record { op = 0; attempt = 0; value = 0; failed = false }

-- The entry of number i
abbrev pub entry_in : List Entry → ℕ → Entry
entry_in es i = slice_index_or es i no_entry

-- The operation of entry i
abbrev pub op_in : List Entry → ℕ → ℕ
op_in es i = (entry_in es i).op

-- The number that is named for entry i as the one before it
abbrev pub before_in : List ℕ → ℕ → ℕ
before_in before i = slice_index_or before i 0

-- Another value than x was shown for operation o
pub record HasShownAnother (es : List Entry) (o x : ℕ) : Type 0 where
  pub entry : Entry
  pub inside : Contains es entry
  pub op_is : entry.op ≡ o
  pub differs : entry.value ≢ x

-- The test whether an entry is one that is sought: with this value, with another value than this, or failed
abbrev pub is_sought : Sought → Entry → Bool
is_sought (Value x) e = e.value == x
is_sought (ValueBesides x) e = not (e.value == x)
is_sought Failure e = e.failed

-- An entry of operation o is one that is sought
pub record HasSought (es : List Entry) (o : ℕ) (sought : Sought) : Type 0 where
  pub entry : Entry
  pub inside : Contains es entry
  pub op_is : entry.op ≡ o
  pub passes : is_sought sought entry ≡ true
