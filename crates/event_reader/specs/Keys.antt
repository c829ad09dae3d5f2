-- The keys that a line names
use Rattle.std.specs.Prelude.{ℕ, Bool, true, not, ◌&&◌, List, [], ◌∷◌}
use Rattle.std.specs.List.{list_any}
use Rattle.morph_base.specs.declared.key.Key.{Key}
use Rattle.morph_base.specs.Operations.{same_key}

-- The key of an id in a table
abbrev pub key_of : (table id : ℕ) → Key
key_of table id = record { table = table; id = id }

-- The test whether no two of the keys are the same
unfoldable pub are_distinct : List Key → Bool
are_distinct [] = true
are_distinct (key ∷ keys) = not (list_any (same_key key) keys) && are_distinct keys
