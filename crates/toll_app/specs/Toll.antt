-- What the words of a line of Toll Processing say
use Rattle.std.specs.Prelude.{ℕ, ◌+◌, ◌*◌, ◌==◌, codes, if◌then◌else◌, min, List, [], ◌∷◌, slice_index, Result, Ok}
use Rattle.morph_base.specs.declared.limits.TheConstants.{FIRST_MAX}
use Rattle.morph_base.specs.declared.key.Key.{Key}
use Rattle.morph_base.specs.declared.operation.Func.TheVariants.{Blend, Set, Enter, Charge}
use Rattle.morph_base.specs.Transactions.{Transaction}
use Rattle.event_reader.specs.declared.cause.Cause.{Cause}
use Rattle.event_reader.specs.declared.ranges.Range.{Range}
use Rattle.event_reader.specs.declared.version.Version.{Version}
use Rattle.event_reader.specs.Forms.{Kind, form_of, event_by}
use Rattle.event_reader.specs.Ranges.{times, ids}
use Rattle.event_reader.specs.Steps.{Meaning}
use Rattle.event_reader.specs.Versions.{op_in}

-- The printed name of a table
abbrev pub table_name : ℕ → List ℕ
table_name table =
    if table == 0 then codes "spd"
    else (if table == 1 then codes "at" else (if table == 2 then codes "cnt" else codes "bill"))

-- The key of an id in a table
abbrev pub key : (table id : ℕ) → Key
key table id = record { table = table; id = id }

-- The key of a segment's average speed
abbrev pub speed_of : (segment : ℕ) → Key
speed_of segment = key 0 segment

-- The key of a vehicle's place
abbrev pub place_of : (vehicle : ℕ) → Key
place_of vehicle = key 1 vehicle

-- The key of a segment's count of entries
abbrev pub count_of : (segment : ℕ) → Key
count_of segment = key 2 segment

-- The key of a vehicle's bill
abbrev pub bill_of : (vehicle : ℕ) → Key
bill_of vehicle = key 3 vehicle

-- The range of a segment. One more than a segment has to be a value too, since vehicles' places are kept so
abbrev pub segments : (size : ℕ) → Range
segments size = ids (min size FIRST_MAX)

-- The range of a speed in miles per hour
abbrev pub miles : Range
miles = record { least = 0; greatest = 100 }

-- The event of a report, `T ts vehicle segment speed`. The segment's average takes in the speed, in hundredths of a
-- mile per hour. The vehicle's place becomes one more than the segment. The segment's count rises unless the vehicle
-- was there. The toll of the segment, by its average and its count before, is added to the vehicle's bill, which is at
-- most 1,000,000
abbrev pub report : Version → (ts vehicle segment speed : ℕ) → Transaction
report version ts vehicle segment speed = record {
  ts = ts;
  ops = op_in version Blend (speed_of segment) [] (100 * speed)
      ∷ op_in version Set (place_of vehicle) [] (segment + 1)
      ∷ op_in version Enter (count_of segment) (place_of vehicle ∷ []) (segment + 1)
      ∷ op_in version Charge (bill_of vehicle) (speed_of segment ∷ count_of segment ∷ []) 1000000
      ∷ [];
}

-- What the numbers of a report say, in their places
abbrev pub report_of : Version → List ℕ → Result Transaction Cause
report_of version ns = Ok (report version (slice_index ns 0) (slice_index ns 1) (slice_index ns 2) (slice_index ns 3))

-- The only kind of event line: a report begins with `T` and has four numbers
abbrev pub reports : Version → (size : ℕ) → Kind
reports version size =
    record { form = form_of 84 (times ∷ ids size ∷ segments size ∷ miles ∷ []); says = report_of version }

-- The kinds of event lines: reports only
abbrev pub toll_kinds : Version → (size : ℕ) → List Kind
toll_kinds version size = reports version size ∷ []

-- What the words of a line say by this kind, in an input of each version
abbrev pub toll_event : (size : ℕ) → Meaning
toll_event size version = event_by (toll_kinds version size)
