-- How the step of a line comes about.
use Rattle.std.proofs.Common.{◌≡◌, ℕ, ◌<◌, ◌≤◌, Bool, true, false, nat_le, if◌then◌else◌, List, length, refl, arith, Result, Ok, Err}
use Rattle.std.specs.Prelude.{nat_lt}
use Rattle.std.proofs.lemmas.Bool.Decides.{nat_tests}
use Rattle.morph_base.specs.Transactions.{Transaction}
use Rattle.event_reader.specs.Limits.{longest_line}
use Rattle.event_reader.specs.declared.cause.Cause.{Cause}
use Rattle.event_reader.specs.declared.cause.Cause.TheVariants.{Long, Late, Twice, Full}
use Rattle.event_reader.specs.Words.{words_of}
use Rattle.event_reader.specs.Steps.{Rules, Step, Ignored, Closes, Adds, Refuses, has_time, event_step, said_by, is_ignored, is_punctuation, step_of}

-- a line that is not too long, not ignored and no punctuation, and what its words say
pub record SaysWords (m : Rules) (line : List ℕ) (said : Result Transaction Cause) : Type 0 where
  pub short : length line ≤ longest_line
  pub counts : is_ignored line ≡ false
  pub no_mark : is_punctuation line ≡ false
  pub says : said_by m.says (words_of line) ≡ said

pub data Comes (m : Rules) (closed : ℕ) (batch : List Transaction) (line : List ℕ) : Step → Type 0 where
  is_long : longest_line < length line → Comes m closed batch line (Refuses Long)
  passed_over : length line ≤ longest_line → is_ignored line ≡ true → Comes m closed batch line Ignored
  marks : length line ≤ longest_line → is_ignored line ≡ false → is_punctuation line ≡ true → Comes m closed batch line Closes
  says_none : (cause : Cause) → SaysWords m line (Err cause) → Comes m closed batch line (Refuses cause)
  is_late : (e : Transaction) → SaysWords m line (Ok e) → e.ts ≤ closed → Comes m closed batch line (Refuses Late)
  is_twice : (e : Transaction) → SaysWords m line (Ok e) → closed < e.ts → has_time batch e.ts ≡ true → Comes m closed batch line (Refuses Twice)
  is_full : (e : Transaction) → SaysWords m line (Ok e) → closed < e.ts → has_time batch e.ts ≡ false → m.most ≤ length batch → Comes m closed batch line (Refuses Full)
  joins : (e : Transaction) → SaysWords m line (Ok e) → closed < e.ts → has_time batch e.ts ≡ false → length batch < m.most → Comes m closed batch line (Adds e)

module _ (m : Rules) (closed : ℕ) (batch : List Transaction) (line : List ℕ) where
  comes_event : (e : Transaction) → SaysWords m line (Ok e) → (late twice full : Bool)
      → nat_le e.ts closed ≡ late → has_time batch e.ts ≡ twice → nat_le m.most (length batch) ≡ full
      → Comes m closed batch line (if late then Refuses Late else (if twice then Refuses Twice else (if full then Refuses Full else Adds e)))
  comes_event e says true twice full l t f = is_late e says (grind (arith, nat_tests))
  comes_event e says false true full l t f = is_twice e says (grind (arith, nat_tests)) t
  comes_event e says false false true l t f = is_full e says (grind (arith, nat_tests)) t (grind (arith, nat_tests))
  comes_event e says false false false l t f = joins e says (grind (arith, nat_tests)) t (grind (arith, nat_tests))

  comes_said : (said : Result Transaction Cause) → SaysWords m line said → Comes m closed batch line (event_step m.most closed batch said)
  comes_said (Ok e) says = comes_event e says (nat_le e.ts closed) (has_time batch e.ts) (nat_le m.most (length batch)) refl refl refl
  comes_said (Err cause) says = says_none cause says

  comes_by : (long ignored mark : Bool) → nat_lt longest_line (length line) ≡ long → is_ignored line ≡ ignored → is_punctuation line ≡ mark
      → Comes m closed batch line
      (if long then Refuses Long else (if ignored then Ignored else (if mark then Closes else event_step m.most closed batch (said_by m.says (words_of line)))))
  comes_by true ignored mark l i p = is_long (grind (arith, nat_tests))
  comes_by false true mark l i p = passed_over (grind (arith, nat_tests)) i
  comes_by false false true l i p = marks (grind (arith, nat_tests)) i p
  comes_by false false false l i p =
      comes_said (said_by m.says (words_of line)) (record { short = grind (arith, nat_tests); counts = i; no_mark = p; says = refl })

  pub comes : Comes m closed batch line (step_of m closed batch line)
  unfolding step_of
  comes = comes_by (nat_lt longest_line (length line)) (is_ignored line) (is_punctuation line) refl refl refl
