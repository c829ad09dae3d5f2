-- Operations that were entered one after another, with the key that each changes and its place
use Rattle.std.specs.Prelude.{ℕ, zero, suc, ◌+◌, ◌-◌, ◌*◌, ◌/◌, ◌%◌, ◌^◌, Bool, List, bit_and, slice_index_or}
use Rattle.morph_base.specs.declared.key.Key.{Key}
use Rattle.morph_base.specs.declared.plan.Origin.{Origin}
use Rattle.morph_base.specs.declared.plan.Origin.TheVariants.{Base, Op as Written}
use Rattle.morph_base.specs.Operations.{same_key, no_key}
use Rattle.precedence_graph.specs.declared.writers.TheConstants.{MULTIPLIER, GROUP}
use Rattle.precedence_graph.specs.declared.writers.Entry.{Entry}

-- Where the places of the group of ids of a table begin
abbrev pub group_start : (group table : ℕ) → ℕ
group_start group table = (group * 256 + table) * MULTIPLIER % 2 ^ 64 / 2 ^ 44 * GROUP

-- The place of the key, among this many places
unfoldable pub place_of : Key → ℕ → ℕ
place_of key places = bit_and (group_start (key.id / GROUP) key.table + key.id % GROUP) (places - 1)

-- The entry past the end of a list
abbrev pub no_entry : Entry
no_entry = record { key = no_key; before = 0; level = 0; event_level = 0 }

-- The source that a number names: operation o if it is 1 and o, or a base if it is 0
abbrev pub source_before : ℕ → Origin
source_before zero = Base 0
source_before (suc o) = Written o

module _ (entries : List Entry) where
  -- The entry of operation o
  abbrev pub entry_at : ℕ → Entry
  entry_at o = slice_index_or entries o no_entry

  -- The test whether operation o changes the key
  abbrev pub changes : Key → ℕ → Bool
  changes key o = same_key (entry_at o).key key

  -- The place of the key of operation o, among this many places
  abbrev pub place_among : ℕ → ℕ → ℕ
  place_among places o = place_of (entry_at o).key places

  -- The number that operation o names for the one before it at its place
  abbrev pub before_in : ℕ → ℕ
  before_in o = (entry_at o).before
