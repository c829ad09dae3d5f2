-- The text of the notes: if they are on, a line for each batch that was run and the tally at the end; and what viewers
-- saw, and the outcome of checks of journals
use Rattle.std.specs.Prelude.{ℕ, ◌+◌, ◌==◌, if◌then◌else◌, Bool, true, false, List, [], ◌∷◌, ◌++◌, codes, length, take}
use Rattle.std.specs.List.{flat_map}
use Rattle.morph_base.specs.declared.plan.Plan.{Plan}
use Rattle.morph_base.specs.Plans.{event_count, op_count}
use Rattle.morph_base.specs.declared.strategy.Strategy.{Strategy}
use Rattle.interleaving_core.specs.declared.event.CoreEvent.{CoreEvent}
use Rattle.run_checker.specs.Lines.{text_of}
use Rattle.run_text.specs.declared.choices.Check.{Check}
use Rattle.run_text.specs.declared.choices.Check.TheVariants.{Off, On, Text}
use Rattle.run_text.specs.declared.tally.Tally.{Tally}
use Rattle.run_text.specs.Checks.{is_checked}
use Rattle.morph_engine.specs.Runs.{journal_room}
use Rattle.morph_engine.specs.Accounts.{Account}
use Rattle.run_text.specs.Text.{line, after_space}
use Rattle.run_text.specs.Values.{unit_word, explore_word, abort_word}

-- The number of levels of operations of a plan
abbrev pub level_count : Plan → ℕ
level_count p = length p.op_levels.items

-- The three words of a strategy, each after a space
abbrev pub strategy_words : Strategy → List ℕ
strategy_words s = (32 ∷ unit_word s.unit) ++ (32 ∷ explore_word s.explore) ++ (32 ∷ abort_word s.abort)

-- The line of a batch: its number, what its plan counts, and the words of the strategy that it was run by
unfoldable pub batch_note : (number : ℕ) → Plan → Strategy → List ℕ
batch_note number p s =
    line (codes "batch" ++ after_space number ++ codes ": events" ++ after_space (event_count p) ++ codes " ops" ++ after_space (op_count p)
    ++ codes " levels" ++ after_space (level_count p) ++ strategy_words s)

-- The lines of batches with these accounts, numbered from `number` on
unfoldable pub batch_notes : (number : ℕ) → List Account → List ℕ
batch_notes number [] = []
batch_notes number (a ∷ accounts) = batch_note number a.plan a.strategy ++ batch_notes (number + 1) accounts

-- The line of what a viewer of the balances saw: after how many batches it looked, and the sum of the values of table 0
-- then
unfoldable pub audit_note : (number total : ℕ) → List ℕ
audit_note number total = line (codes "audit" ++ after_space number ++ codes " total" ++ after_space total)

-- The test whether a journal is cut off: it is as long as there is room for
abbrev pub is_cut : Plan → (journal : List CoreEvent) → Bool
is_cut p journal = length journal == journal_room p

-- The word of a journal that was checked, and is right or cut off
abbrev pub check_word : (cut : Bool) → List ℕ
check_word true = codes "cut"
check_word false = codes "yes"

-- The line of a journal that was checked, and is right or cut off
unfoldable pub check_note : (number : ℕ) → (cut : Bool) → List ℕ
check_note number cut = line (codes "check" ++ after_space number ++ codes ": " ++ check_word cut)

-- The lines of a journal's steps, if they are asked for
abbrev pub step_notes : Check → (journal : List CoreEvent) → List ℕ
step_notes Off journal = []
step_notes On journal = []
step_notes Text journal = text_of journal

-- What is noted of the journal of a batch, by its number and its plan, if journals are checked
abbrev pub check_notes : Check → (number : ℕ) → Plan → (journal : List CoreEvent) → List ℕ
check_notes check number p journal =
    if is_checked check then step_notes check journal ++ check_note number (is_cut p journal) else []

-- The line of the tally
unfoldable pub tally_note : Tally → List ℕ
tally_note t =
    line (codes "tally: evaluated" ++ after_space t.evaluated ++ codes " spread" ++ after_space t.spread ++ codes " rolled" ++ after_space t.rolled
    ++ codes " left" ++ after_space t.left ++ codes " handed" ++ after_space t.handed ++ codes " stolen" ++ after_space t.stolen)

-- The line of how many operations were settled by the plain finish and by each of the workers
unfoldable pub settled_note : (workers : ℕ) → Tally → List ℕ
settled_note workers t = line (codes "settled" ++ flat_map after_space (take (workers + 1) t.settled_by))

-- The line of the tally, and the one of what was settled by whom
abbrev pub closing_notes : (workers : ℕ) → Tally → List ℕ
closing_notes workers t = tally_note t ++ settled_note workers t

-- The text if the notes are on, and else nothing
abbrev pub noted : (on : Bool) → List ℕ → List ℕ
noted true text = text
noted false text = []
