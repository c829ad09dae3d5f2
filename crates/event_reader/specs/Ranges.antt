-- The ranges of the numbers that the lines of several applications have
use Rattle.std.specs.Prelude.{ℕ, ◌-◌}
use Rattle.morph_base.specs.Limits.{latest_time}
use Rattle.event_reader.specs.declared.ranges.Range.{Range}
use Rattle.event_reader.specs.declared.version.Version.{Version}
use Rattle.event_reader.specs.Versions.{greatest_of}

-- The range of a timestamp
abbrev pub times : Range
times = record { least = 1; greatest = latest_time }

-- The range of an amount in an input of the version
abbrev pub amounts : Version → Range
amounts version = record { least = 0; greatest = greatest_of version }

-- The range of an id if each table has `size` ids. If it has none, the least is 1 - 0 and the greatest 0 - 1, which is
-- 0, so no number is in it
abbrev pub ids : (size : ℕ) → Range
ids size = record { least = 1 - size; greatest = size - 1 }

-- The range that no number is in
abbrev pub nothing : Range
nothing = record { least = 1; greatest = 0 }
