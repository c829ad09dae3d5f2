-- The text of a run: the lines of its events, and what is written at the end
use Rattle.std.specs.Prelude.{ℕ, ◌==◌, not, if◌then◌else◌, List, [], ◌∷◌, ◌++◌, drop, codes, decimal, count_by}
use Rattle.std.specs.List.{flat_map, range_with_len}
use Rattle.morph_base.specs.declared.key.Layout.{Layout}
use Rattle.morph_base.specs.Transactions.{Transaction, by_time}
use Rattle.morph_base.specs.States.{State, opening_state, after_all}
use Rattle.morph_base.specs.declared.plan.Plan.{Plan}
use Rattle.morph_base.specs.declared.plan.Settled.{Settled}
use Rattle.morph_base.specs.Graphs.{below}
use Rattle.morph_engine.specs.Fates.{settled_fate}
use Rattle.event_reader.specs.declared.cause.Cause.{Cause}
use Rattle.event_reader.specs.declared.cause.Cause.TheVariants.{Long, Form, Range, Same, Late, Twice, Full}
use Rattle.event_reader.specs.Accepted.{Accepted, Ending, Ended, RefusedAt, CutOff}
use Rattle.morph_base.specs.Outcomes.{Fate, fates}
use Rattle.version_table.specs.Totals.{total_of}
use Rattle.run_text.specs.declared.report.Report.{Report}
use Rattle.run_text.specs.declared.report.Report.TheVariants.{Whole, Summary}

-- How a run is reported: the whole or a summary, and its tables with their names
pub record Telling : Type 0 where
  pub report : Report
  pub layout : Layout
  pub name : ℕ → List ℕ

-- The bytes with one LF behind them
abbrev pub line : List ℕ → List ℕ
line bytes = bytes ++ 10 ∷ []

-- A number, after a space
abbrev pub after_space : ℕ → List ℕ
after_space n = 32 ∷ decimal n

-- The text of an event: its time, `C` and the values of its targets after it, in operation order, if it commits; its
-- time and `A` if it aborts
abbrev pub event_text : Fate → List ℕ
event_text f = decimal f.ts ++ (if f.committed then codes " C" ++ flat_map after_space f.values else codes " A")

-- The line of an event
abbrev pub event_line : Fate → List ℕ
event_line f = line (event_text f)

-- The lines of events
abbrev pub lines_of : List Fate → List ℕ
lines_of fs = flat_map event_line fs

-- The lines of the events of a plan from one on, up to another, as they were settled
abbrev pub lines_between : Plan → Settled → (first end : ℕ) → List ℕ
lines_between p r first end = flat_map (λ i. event_line (settled_fate p r i)) (drop first (below end))

-- What is reported of events: their lines, or nothing in a summary
abbrev pub told_lines : Report → List Fate → List ℕ
told_lines Whole fs = lines_of fs
told_lines Summary fs = []

-- The events of batches in the order of time: batch after batch, each by rising time
abbrev pub in_order : List (List Transaction) → List Transaction
in_order batches = flat_map by_time batches

-- What becomes of the events of batches, applied one at a time to the opening state
abbrev pub run_fates : List (List Transaction) → List Fate
run_fates batches = fates opening_state (in_order batches)

-- The state after the events of batches, applied one at a time to the opening state
abbrev pub run_state : List (List Transaction) → State
run_state batches = after_all opening_state (in_order batches)

-- What is reported of the events of batches
abbrev pub event_lines : Report → List (List Transaction) → List ℕ
event_lines report batches = told_lines report (run_fates batches)

-- The line of a value under a table's name and an id, if it is not zero
abbrev pub value_line : (name : List ℕ) → (id value : ℕ) → List ℕ
value_line name id value = if value == 0 then [] else line (name ++ after_space id ++ after_space value)

-- The lines of the values of a table that are not zero, by id
abbrev pub table_lines : (name : List ℕ) → State → (table size : ℕ) → List ℕ
table_lines name s table size =
    flat_map (λ id. value_line name id (s (record { table = table; id = id }))) (range_with_len 0 size)

-- The line of the sum of the values of a table, under the table's name
abbrev pub total_line : (name : List ℕ) → State → (table size : ℕ) → List ℕ
total_line name s table size = line (name ++ codes " total" ++ after_space (total_of s table size))

-- What is reported of the values of a table: those that are not zero, or their sum in a summary
abbrev pub told_table : Report → (name : List ℕ) → State → (table size : ℕ) → List ℕ
told_table Whole name s table size = table_lines name s table size
told_table Summary name s table size = total_line name s table size

-- What is reported of the values, table by table
abbrev pub told_values : Report → Layout → (ℕ → List ℕ) → State → List ℕ
told_values report layout name s =
    flat_map (λ table. told_table report (name table) s table layout.size) (range_with_len 0 layout.tables)

-- The line of how many events committed and how many aborted
abbrev pub counts_line : (committed aborted : ℕ) → List ℕ
counts_line committed aborted =
    line (codes "committed" ++ after_space committed ++ codes " aborted" ++ after_space aborted)

-- The number of events that commit
abbrev pub committed_in : List Fate → ℕ
committed_in fs = count_by (λ f. f.committed) fs

-- The number of events that abort
abbrev pub aborted_in : List Fate → ℕ
aborted_in fs = count_by (λ f. not f.committed) fs

-- The closing text: what is reported of the values, and the counts
abbrev pub closing_text : Telling → State → List Fate → List ℕ
closing_text telling s fs =
    told_values telling.report telling.layout telling.name s ++ counts_line (committed_in fs) (aborted_in fs)

-- The word of a cause
abbrev pub cause_word : Cause → List ℕ
cause_word Long = codes "long"
cause_word Form = codes "form"
cause_word Range = codes "range"
cause_word Same = codes "same"
cause_word Late = codes "late"
cause_word Twice = codes "twice"
cause_word Full = codes "full"

-- The refused text: the number of the line and the word of its cause
abbrev pub refused_text : (number : ℕ) → Cause → List ℕ
refused_text number cause = line (codes "refused line" ++ after_space number ++ codes ": " ++ cause_word cause)

-- What is written at the end, after the events of some batches: the closing text, the refused text, or nothing if the
-- lines are cut off
abbrev pub end_text : Telling → List (List Transaction) → Ending → List ℕ
end_text telling batches Ended = closing_text telling (run_state batches) (run_fates batches)
end_text telling batches (RefusedAt number cause) = refused_text number cause
end_text telling batches CutOff = []

-- The whole text of accepted batches: what is reported of their events, and what is written at the end
abbrev pub whole_text : Telling → Accepted → List ℕ
whole_text telling all = event_lines telling.report all.batches ++ end_text telling all.batches all.ending
