-- What the settings say of a run: its input, what a line says, and how the run is reported
use Rattle.std.specs.Prelude.{ℕ, ◌==◌, if◌then◌else◌, List, codes, Option, Some, None}
use Rattle.event_reader.specs.Steps.{Meaning}
use Rattle.event_reader.specs.Generated.{Drawn}
use Rattle.event_reader.specs.GeneratedText.{generated_text}
use Rattle.ledger_app.specs.Ledger.{ledger_event}
use Rattle.ledger_app.specs.LedgerDraws.{ledger_drawn}
use Rattle.grep_app.specs.Grep.{grep_event}
use Rattle.grep_app.specs.GrepDraws.{grep_drawn}
use Rattle.toll_app.specs.Toll.{toll_event}
use Rattle.toll_app.specs.TollDraws.{toll_drawn}
use Rattle.run_text.specs.Reports.{report_by}
use Rattle.run_text.specs.declared.choices.Settings.{Settings}
use Rattle.run_text.specs.declared.choices.Generated.{Generated}
use Rattle.run_text.specs.declared.choices.App.{App}
use Rattle.run_text.specs.declared.choices.App.TheVariants.{Ledger, Grep, Toll}
use Rattle.run_text.specs.Text.{Telling}

-- How a run is reported, if the application's tables have `size` ids and these names
abbrev pub telling_by : Option Generated → (tables size : ℕ) → (ℕ → List ℕ) → Telling
telling_by generated tables size name =
    record { report = report_by generated; layout = record { tables = tables; size = size }; name = name }

-- How a run of an application with these tables is reported, by the settings
abbrev pub telling_for : Settings → (tables : ℕ) → (ℕ → List ℕ) → Telling
telling_for s tables name = telling_by s.generated tables s.size name

-- The input: what the source has left, or a text that the program makes
abbrev pub input_by : Option Generated → (text : (seed events : ℕ) → List ℕ) → Option (List ℕ) → Option (List ℕ)
input_by None text left = left
input_by (Some g) text left = Some (text g.seed g.events)

-- What is left of an input that is read. Of one that the program makes nothing is revealed
abbrev pub left_by : Option Generated → Option (List ℕ) → Option (List ℕ)
left_by None left = left
left_by (Some g) left = None

-- What the words of a line say in each application, if each table has `size` ids
abbrev pub event_in : App → (size : ℕ) → Meaning
event_in Ledger = ledger_event
event_in Grep = grep_event
event_in Toll = toll_event

-- What the generator of each application writes
abbrev pub drawn_in : App → (size i state : ℕ) → Drawn
drawn_in Ledger = ledger_drawn
drawn_in Grep = grep_drawn
drawn_in Toll = toll_drawn

-- The number of tables of each application
abbrev pub tables_in : App → ℕ
tables_in Ledger = 2
tables_in Grep = 1
tables_in Toll = 4

-- The names of the tables of each application
abbrev pub name_in : App → (table : ℕ) → List ℕ
name_in Ledger table = if table == 0 then codes "acct" else codes "asset"
name_in Grep table = codes "cell"
name_in Toll table =
    if table == 0 then codes "spd"
    else (if table == 1 then codes "at" else (if table == 2 then codes "cnt" else codes "bill"))

-- What a line says, by the settings
abbrev pub meaning_of : Settings → Meaning
meaning_of s = event_in s.app s.size

-- The input, by the settings
abbrev pub input_of : Settings → Option (List ℕ) → Option (List ℕ)
input_of s left = input_by s.generated (generated_text (drawn_in s.app s.size)) left

-- How a run is reported, by the settings
abbrev pub telling_of : Settings → Telling
telling_of s = telling_by s.generated (tables_in s.app) s.size (name_in s.app)
