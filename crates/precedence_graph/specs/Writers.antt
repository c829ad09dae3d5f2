-- A table of last writers, read as the source that it has for each key
use Rattle.std.specs.Prelude.{ℕ, length}
use Rattle.morph_base.specs.declared.key.Key.{Key}
use Rattle.morph_base.specs.declared.plan.Origin.{Origin}
use Rattle.precedence_graph.specs.declared.writers.Writers.{Writers}
use Rattle.morph_base.specs.Links.{last_passing}
use Rattle.precedence_graph.specs.Entries.{source_before, entry_at, changes}

-- How many operations were entered
abbrev pub entered_count : Writers → ℕ
entered_count w = length w.entries.items

-- How many more operations there is room for
abbrev pub room_of : Writers → ℕ
room_of w = w.entries.room

-- The source that the table has for a key: the last operation entered that changes it, or a base
abbrev pub source_in : Writers → Key → Origin
source_in w key = source_before (last_passing (changes w.entries.items key) (entered_count w))

-- The level with which operation o was entered
abbrev pub entered_level : Writers → ℕ → ℕ
entered_level w o = (entry_at w.entries.items o).level

-- The level of its event with which operation o was entered
abbrev pub entered_event_level : Writers → ℕ → ℕ
entered_event_level w o = (entry_at w.entries.items o).event_level
