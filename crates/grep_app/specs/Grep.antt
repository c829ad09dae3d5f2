-- What the words of a line of GrepSum say
use Rattle.std.specs.Prelude.{ℕ, not, List, [], ◌∷◌, drop, map, slice_index, Result, Ok}
use Rattle.morph_base.specs.declared.key.Key.{Key}
use Rattle.morph_base.specs.declared.operation.Func.TheVariants.{Keep, Sum, Set}
use Rattle.morph_base.specs.declared.operation.Op.{Op}
use Rattle.morph_base.specs.Transactions.{Transaction}
use Rattle.event_reader.specs.declared.cause.Cause.{Cause}
use Rattle.morph_base.specs.declared.limits.TheConstants.{PARAMS}
use Rattle.event_reader.specs.Keys.{key_of, are_distinct}
use Rattle.event_reader.specs.declared.version.Version.TheVariants.{One, Two}
use Rattle.event_reader.specs.Forms.{Form, Kind, form_of, unless, event_by}
use Rattle.event_reader.specs.Ranges.{times, ids, amounts}
use Rattle.event_reader.specs.Steps.{Meaning}
use Rattle.event_reader.specs.declared.version.Version.{Version}
use Rattle.event_reader.specs.Versions.{op_in}

-- The key of a cell
abbrev pub cell : ℕ → Key
cell id = key_of 0 id

-- The event of `W ts k v`: cell k is set to v
abbrev pub setting : Version → (ts k v : ℕ) → Transaction
setting version ts k v = record { ts = ts; ops = op_in version Set (cell k) [] v ∷ [] }

-- The operation that leaves a cell as it is
abbrev pub keep : Version → Key → Op
keep version key = op_in version Keep key [] 0

-- The event of `G ts k limit k1 [k2 ..]`: the sum of the cells is put into cell k if it is at most the limit, and the
-- cells stay
abbrev pub gathering : Version → (ts limit : ℕ) → (target : Key) → (cells : List Key) → Transaction
gathering version ts limit target cells =
    record { ts = ts; ops = op_in version Sum target cells limit ∷ map (keep version) cells }

-- What a line that sums says: its event, or the cause same if a cell is named twice
abbrev pub gather : Version → (ts limit : ℕ) → (target : Key) → (cells : List Key) → Result Transaction Cause
gather version ts limit target cells =
    unless (not (are_distinct (target ∷ cells))) (gathering version ts limit target cells)

-- What the numbers of a line that sets a cell say, in their places
abbrev pub setting_of : Version → List ℕ → Result Transaction Cause
setting_of version ns = Ok (setting version (slice_index ns 0) (slice_index ns 1) (slice_index ns 2))

-- What the numbers of a line that sums say, in their places
abbrev pub gather_of : Version → List ℕ → Result Transaction Cause
gather_of version ns =
    gather version (slice_index ns 0) (slice_index ns 2) (cell (slice_index ns 1)) (map cell (drop 3 ns))

-- The most cells that one line sums: 3 in version 1, as many as an operation has parameters in version 2
abbrev pub most_cells : Version → ℕ
most_cells One = 3
most_cells Two = PARAMS

-- The kind of a line that sets a cell: it begins with `W` and has three numbers
abbrev pub settings : Version → (size : ℕ) → Kind
settings version size =
    record { form = form_of 87 (times ∷ ids size ∷ amounts version ∷ []); says = setting_of version }

-- The form of a line that sums: it begins with `G` and has three numbers, followed by one to `most_cells` cells
abbrev pub sum_form : Version → (size : ℕ) → Form
sum_form version size = record { letter = 71; places = times ∷ ids size ∷ amounts version ∷ []; more = ids size; least = 1; most = most_cells version }

-- The kind of a line that sums
abbrev pub sums : Version → (size : ℕ) → Kind
sums version size = record { form = sum_form version size; says = gather_of version }

-- The kinds of event lines: one that sets a cell, and one that sums
abbrev pub grep_kinds : Version → (size : ℕ) → List Kind
grep_kinds version size = settings version size ∷ sums version size ∷ []

-- What the words of a line say by these kinds, in an input of each version
abbrev pub grep_event : (size : ℕ) → Meaning
grep_event size version = event_by (grep_kinds version size)
