-- How a batch is read line by line.
use Rattle.std.proofs.Common.{◌≡◌, ℕ, zero, suc, ◌+◌, Bool, true, false, subst, List, [], ◌∷◌, ◌++◌, length, refl, sym, ◌∙◌, ap, arith, append_assoc, append-nil, Option, Some, None, Ok, Err}
use Rattle.std.specs.Prelude.{IsTrue, IfSome, ◌==◌, option_map, nat_lt}
use Rattle.std.specs.List.{IsDistinct}
use Rattle.std.proofs.lemmas.Bool.{true≢false}
use Rattle.std.proofs.lemmas.Bool.Decides.{nat_tests}
use Rattle.std.proofs.lemmas.List.Elements.{All-nil}
use Rattle.morph_base.specs.declared.key.Layout.{Layout}
use Rattle.morph_base.specs.Transactions.{Transaction, IsTransaction, HasKeysIn, HasHigh}
use Rattle.morph_base.specs.declared.limits.TheConstants.{MAX}
use Rattle.morph_io.specs.Told.{ahead, ahead_nil, ahead_ahead}
use Rattle.event_reader.specs.Limits.{longest_line}
use Rattle.event_reader.specs.declared.cause.Cause.{Cause}
use Rattle.event_reader.specs.declared.cause.Cause.TheVariants.{Long}
use Rattle.event_reader.specs.declared.answers.LineNext.TheVariants.{Line}
use Rattle.event_reader.specs.declared.fault.ReaderFault.{ReaderFault}
use Rattle.event_reader.specs.declared.fault.ReaderFault.TheVariants.{ReadFault, TooLong, OutOfMemory}
use Rattle.event_reader.specs.Lines.{Reading, front, within, with_line, IsLongFirst}
use Rattle.event_reader.specs.declared.past.Past.{Past}
use Rattle.event_reader.specs.declared.version.Version.{Version}
use Rattle.event_reader.specs.declared.version.Version.TheVariants.{One, Two}
use Rattle.event_reader.specs.Versions.{greatest_of, is_version_line, has_version_line}
use Rattle.event_reader.specs.Steps.{Rules, Meaning, rules_of, Step, step_of}
use Rattle.event_reader.specs.Accepted.{Accepted, Ended, RefusedAt, CutOff, with_batch, at_last, led_by, accepted_lines, accepted_from, accepted_behind}
use Rattle.event_reader.specs.Pending.{IsSoundBatch}
use Rattle.event_reader.specs.VersionLaws.{long_plain}
use Rattle.event_reader.proofs.LineAnswers.{end_told, at_end_for}
use Rattle.event_reader.specs.Reader.{LinesView, room, left_for, reading_of, TakesBytes, AnswersLine, ShowsLine, accepted_next, accepted_at, AnswersNext, ShowsBatch}

-- what is still to be given is `F` of the lines that come after `now`
pub record HasReadTo (meaning : Meaning) (past : Past) (before : LinesView) (left : Option (List ℕ)) (F : Reading → Accepted) (now : LinesView) (left' : Option (List ℕ)) : Type 0 where
  pub told : accepted_at meaning past before left ≡ option_map F (reading_of now left')
  pub got : List ℕ
  pub taken : left ≡ ahead got left'
  pub shows : now.ended ≡ false → (more : List ℕ) → accepted_next meaning past before (front (before.kept ++ got ++ more)) ≡ F (front (now.kept ++ more))
  pub unended : now.ended ≡ false → before.ended ≡ false

-- at the start
unfoldable pub reads_nothing : (meaning : Meaning) (past : Past) (v : LinesView) (left : Option (List ℕ)) → HasReadTo meaning past v left (accepted_next meaning past v) v left
reads_nothing meaning past v left = record {
  told = refl;
  got = [];
  taken = sym (ahead_nil left);
  shows = λ unended more. ap (λ kept. accepted_next meaning past v (front (kept ++ more))) (append-nil v.kept);
  unended = λ e. e;
}

-- functions of what is told
pub map_map : (F G : Reading → Accepted) (g : Reading → Reading) (o : Option Reading) → ((r : Reading) → F (g r) ≡ G r) → option_map F (option_map g o) ≡ option_map G o
map_map F G g None same = refl
map_map F G g (Some r) same = ap Some (same r)

pub map_same : (F G : Reading → Accepted) (o : Option Reading) → ((r : Reading) → F r ≡ G r) → option_map F o ≡ option_map G o
map_same F G None same = refl
map_same F G (Some r) same = ap Some (same r)

split_map : (F : Reading → Accepted) (h : Accepted → Accepted) (G : Reading → Accepted) (o : Option Reading) → ((r : Reading) → F r ≡ h (G r))
    → option_map F o ≡ option_map h (option_map G o)
split_map F h G None same = refl
split_map F h G (Some r) same = ap Some (same r)

if_told : (F : Reading → Accepted) (P : Reading → Type 0) (all : Accepted) (o : Option Reading) → IfSome o P → ((r : Reading) → P r → F r ≡ all)
    → IfSome (option_map F o) (λ a. a ≡ all)
if_told F P all None h same = tt
if_told F P all (Some r) h same = same r h

-- the same with another function that agrees
unfoldable pub reads_as : (meaning : Meaning) (past : Past) (before : LinesView) (left : Option (List ℕ)) (F G : Reading → Accepted) (now : LinesView) (left' : Option (List ℕ))
    → HasReadTo meaning past before left F now left' → ((r : Reading) → F r ≡ G r) → HasReadTo meaning past before left G now left'
reads_as meaning past before left F G now left' h same = record {
  told = h.told ∙ map_same F G (reading_of now left') same;
  got = h.got;
  taken = h.taken;
  shows = λ unended more. h.shows unended more ∙ same (front (now.kept ++ more));
  unended = h.unended;
}

-- a line more
unfoldable pub reads_line : (meaning : Meaning) (past : Past) (before : LinesView) (left : Option (List ℕ)) (F : Reading → Accepted) (now : LinesView) (left' : Option (List ℕ)) (next : LinesView) (left'' : Option (List ℕ))
    → HasReadTo meaning past before left F now left' → reading_of now left' ≡ option_map (with_line next.line) (reading_of next left'')
    → TakesBytes left' left'' (ShowsLine now (Ok Line) next) → (next.ended ≡ false → now.ended ≡ false)
    → HasReadTo meaning past before left (λ r. F (with_line next.line r)) next left''
reads_line meaning past before left F now left' next left'' h told takes unended = record {
  told = h.told ∙ ap (option_map F) told ∙ map_map F (λ r. F (with_line next.line r)) (with_line next.line) (reading_of next left'') (λ r. refl);
  got = h.got ++ takes.got;
  taken = h.taken ∙ ap (ahead h.got) takes.taken ∙ ahead_ahead h.got takes.got left'';
  shows = λ open' more.
      ap (λ bytes. accepted_next meaning past before (front bytes)) (regroup before.kept h.got takes.got more)
      ∙ h.shows (unended open') (takes.got ++ more)
      ∙ ap (λ bytes. F (front bytes)) (sym (append_assoc now.kept takes.got more))
      ∙ ap F (takes.shows open' more);
  unended = λ open'. h.unended (unended open');
}
  where
    regroup : (a b c d : List ℕ) → a ++ (b ++ c) ++ d ≡ a ++ b ++ (c ++ d)
    regroup a b c d = simp append_assoc

-- where a line leads
pub leads : (m : Rules) (n closed : ℕ) (batch : List Transaction) (line : List ℕ) (step : Step) → step_of m closed batch line ≡ step → (r : Reading)
    → accepted_from m n closed batch (with_line line r) ≡ led_by step n closed batch (λ closed' batch'. accepted_from m (n + 1) closed' batch' r)
unfolding accepted_lines
leads m n closed batch line step is r = ap (λ s. led_by s n closed batch (λ closed' batch'. accepted_from m (n + 1) closed' batch' r)) is

-- a line that is too long is refused
long_refused : (m : Rules) (n closed : ℕ) (batch : List Transaction) (r : Reading) → IsLongFirst r.lines
    → accepted_from m n closed batch r ≡ record { batches = []; ending = RefusedAt (n + 1) Long }
unfolding step_of accepted_lines
long_refused m n closed batch r (line, more, is, long) =
    let too_long : nat_lt longest_line (length line) ≡ true = grind (arith, nat_tests) in
    rw is (rw too_long refl)

-- ---- behind a number of lines

not_first : (n : ℕ) → (suc n == 0) ≡ false
not_first n = grind (arith, nat_tests)

behind_long : (m : Meaning) (v : Version) (n closed : ℕ) (batch : List Transaction) (r : Reading) → IsLongFirst r.lines
    → accepted_behind m v n closed batch r ≡ record { batches = []; ending = RefusedAt (n + 1) Long }
behind_long m v zero closed batch r (line, more, is, long) =
    let plain : has_version_line r.lines ≡ false = ap has_version_line is ∙ long_plain line long in
    rw plain (long_refused (rules_of m One) 0 closed batch r (line, more, is, long))
behind_long m v (suc n) closed batch r long = rw (not_first n) (long_refused (rules_of m v) (suc n) closed batch r long)

-- where no line is left
behind_none : (m : Meaning) (v : Version) (n closed : ℕ) (batch : List Transaction) (cut : Bool)
    → accepted_behind m v n closed batch (record { lines = []; cut = cut }) ≡ at_last cut batch
unfolding accepted_lines
behind_none m v zero closed batch cut = refl
behind_none m v (suc n) closed batch cut = rw (not_first n) refl

-- behind a line more
behind_next : (m : Meaning) (v : Version) (n closed : ℕ) (batch : List Transaction) (r : Reading) → accepted_behind m v (n + 1) closed batch r ≡ accepted_from (rules_of m v) (n + 1) closed batch r
behind_next m v n closed batch r = (let more : (n + 1 == 0) ≡ false = grind (arith, nat_tests) in rw more refl)

-- the version line
pub behind_version : (m : Meaning) (v : Version) (n closed : ℕ) (batch : List Transaction) (line : List ℕ) → n ≡ 0 → is_version_line line ≡ true → (r : Reading)
    → accepted_behind m v n closed batch (with_line line r) ≡ accepted_behind m Two (n + 1) closed batch r
behind_version m v n closed batch line first is r = rw (first, is) refl

-- every other line
module _ (m : Meaning) (v : Version) (n closed : ℕ) (batch : List Transaction) (line : List ℕ) (opens : n ≡ 0 → v ≡ One) (plain : n ≡ 0 → is_version_line line ≡ false) where
  behind_line : (r : Reading) → accepted_behind m v n closed batch (with_line line r) ≡ accepted_from (rules_of m v) n closed batch (with_line line r)
  behind_line r = by_number n opens plain
    where
      by_number : (k : ℕ) → (k ≡ 0 → v ≡ One) → (k ≡ 0 → is_version_line line ≡ false) → accepted_behind m v k closed batch (with_line line r) ≡ accepted_from (rules_of m v) k closed batch (with_line line r)
      by_number zero opened other = (let no = other refl in rw no (ap (λ w. accepted_from (rules_of m w) 0 closed batch (with_line line r)) (sym (opened refl))))
      by_number (suc k) opened other = rw (not_first k) refl

  pub goes_behind : (batch' : List Transaction) → ((k : ℕ) (r : Reading) → accepted_from (rules_of m v) k closed batch (with_line line r) ≡ accepted_from (rules_of m v) (k + 1) closed batch' r) → (r : Reading)
      → accepted_behind m v n closed batch (with_line line r) ≡ accepted_behind m v (n + 1) closed batch' r
  goes_behind batch' leads r = behind_line r ∙ leads n r ∙ sym (behind_next m v n closed batch' r)

  pub closes_behind : (closed' : ℕ) → ((k : ℕ) (r : Reading) → accepted_from (rules_of m v) k closed batch (with_line line r) ≡ with_batch batch (accepted_from (rules_of m v) (k + 1) closed' [] r)) → (r : Reading)
      → accepted_behind m v n closed batch (with_line line r) ≡ with_batch batch (accepted_behind m v (n + 1) closed' [] r)
  closes_behind closed' leads r = behind_line r ∙ leads n r ∙ ap (with_batch batch) (sym (behind_next m v n closed' [] r))

  pub refuses_behind : (cause : Cause) → ((k : ℕ) (r : Reading) → accepted_from (rules_of m v) k closed batch (with_line line r) ≡ record { batches = []; ending = RefusedAt (k + 1) cause }) → (r : Reading)
      → accepted_behind m v n closed batch (with_line line r) ≡ record { batches = []; ending = RefusedAt (n + 1) cause }
  refuses_behind cause leads r = behind_line r ∙ leads n r

-- a line that is not told to be the version line
pub plain_by : (is : Bool) (number : ℕ) → ((number ≡ 1) × (is ≡ true) → false ≡ true) → number ≡ 1 → is ≡ false
plain_by false number tells first = refl
plain_by true number tells first = absurd (true≢false (sym (tells (first, refl))))

pub no_items : {X : Type 0} (xs : List X) → length xs ≡ 0 → xs ≡ []
no_items [] none = refl
no_items (x ∷ xs) none = absurd (omega (arith, none))

-- ---- a batch

module _ (m : Meaning) (past : Past) (before : LinesView) (left : Option (List ℕ)) (v : Version) (batch : List Transaction) (now : LinesView) (left' : Option (List ℕ)) where
  abbrev pub Reads : Type 0
  Reads = HasReadTo m past before left (accepted_behind m v now.number past.closed batch) now left'

  -- the answer for a line that is too long
  pub answers_too_long : Reads → IfSome (reading_of now left') (λ r. IsLongFirst r.lines)
      → IfSome (accepted_at m past before left) (λ all. all ≡ record { batches = []; ending = RefusedAt (now.number + 1) Long })
  answers_too_long h long =
      rw h.told
      (if_told (accepted_behind m v now.number past.closed batch) (λ r. IsLongFirst r.lines) (record { batches = []; ending = RefusedAt (now.number + 1) Long })
      (reading_of now left') long (behind_long m v now.number past.closed batch))

  -- the answer where the lines are cut off
  pub answers_cut : Reads → IfSome (reading_of now left') (λ r. r ≡ record { lines = []; cut = true })
      → IfSome (accepted_at m past before left) (λ all. all ≡ record { batches = []; ending = CutOff })
  unfolding accepted_lines
  answers_cut h cut =
      rw h.told
      (if_told (accepted_behind m v now.number past.closed batch) (λ r. r ≡ record { lines = []; cut = true }) (record { batches = []; ending = CutOff })
      (reading_of now left') cut (λ r is. ap (accepted_behind m v now.number past.closed batch) is ∙ behind_none m v now.number past.closed batch true))

  -- the answer at the end of the input with no event pending
  pub answers_ended : Reads → batch ≡ [] → IfSome (reading_of now left') (λ r. r ≡ record { lines = []; cut = false })
      → IfSome (accepted_at m past before left) (λ all. all ≡ record { batches = []; ending = Ended })
  unfolding accepted_lines
  answers_ended h none ended =
      rw h.told
      (if_told (accepted_behind m v now.number past.closed batch) (λ r. r ≡ record { lines = []; cut = false }) (record { batches = []; ending = Ended })
      (reading_of now left') ended
      (λ r is. ap (accepted_behind m v now.number past.closed batch) is ∙ behind_none m v now.number past.closed batch false ∙ ap (at_last false) none))

  -- the answer at the end of the input with a batch pending
  pub answers_last : (past' : Past) (next : LinesView) (left'' : Option (List ℕ)) → Reads → reading_of now left' ≡ reading_of next left''
      → IfSome (reading_of now left') (λ r. r ≡ record { lines = []; cut = false })
      → accepted_at m past before left ≡ option_map (with_batch batch) (accepted_at m past' next left'')
  answers_last past' next left'' h same ended = h.told ∙ by_told (reading_of now left') ended ∙ ap (λ o. option_map (with_batch batch) (option_map (accepted_next m past' next) o)) same
    where
      by_told : (o : Option Reading) → IfSome o (λ r. r ≡ record { lines = []; cut = false })
          → option_map (accepted_behind m v now.number past.closed batch) o ≡ option_map (with_batch batch) (option_map (accepted_next m past' next) o)
      by_told None ended = refl
      by_told (Some r) ended =
          ap Some
          (ap (accepted_behind m v now.number past.closed batch) ended ∙ behind_none m v now.number past.closed batch false
          ∙ ap (with_batch batch) (sym (ap (accepted_next m past' next) ended ∙ behind_none m past'.version next.number past'.closed [] false)))

  -- the source failed: the bytes that it gave close no batch and have no refused line
  pub shows_failed : (got : List ℕ) → (h : Reads) → now.ended ≡ false → front (now.kept ++ got) ≡ record { lines = []; cut = true }
      → accepted_next m past before (front (before.kept ++ (h.got ++ got))) ≡ record { batches = []; ending = CutOff }
  unfolding accepted_lines
  shows_failed got h unended none =
      ap (λ bytes. accepted_next m past before (front bytes)) (sym (append_assoc before.kept h.got got))
      ∙ h.shows unended got
      ∙ ap (accepted_behind m v now.number past.closed batch) none
      ∙ behind_none m v now.number past.closed batch true

-- where no line was added to what was read, it has read more bytes
pub takes_more : (m : Meaning) (past : Past) (before : LinesView) (left : Option (List ℕ)) (F : Reading → Accepted) (now : LinesView) (left' left'' : Option (List ℕ)) (Shows Shows' : List ℕ → Type 0)
    → (h : HasReadTo m past before left F now left') → TakesBytes left' left'' Shows → ((got : List ℕ) → Shows got → Shows' (h.got ++ got)) → TakesBytes left left'' Shows'
takes_more m past before left F now left' left'' Shows Shows' h takes shows = record {
  got = h.got ++ takes.got;
  taken = h.taken ∙ ap (ahead h.got) takes.taken ∙ ahead_ahead h.got takes.got left'';
  shows = shows takes.got takes.shows;
}

module _ (m : Meaning) (past : Past) (before : LinesView) (left : Option (List ℕ)) (v : Version) (batch : List Transaction) (now : LinesView) (left' : Option (List ℕ)) (next : LinesView) (left'' : Option (List ℕ)) where
  -- the answer where no line could be read
  pub answers_fault_next : (fault : ReaderFault) (line : List ℕ) (after : Option Reading) (later : Option Accepted) → Reads m past before left v batch now left'
      → AnswersLine (reading_of now left') (Err fault) line after → AnswersNext (accepted_at m past before left) (Err fault) later
  answers_fault_next ReadFault line after later h answer = tt
  answers_fault_next TooLong line after later h answer = answers_cut m past before left v batch now left' h answer
  answers_fault_next OutOfMemory line after later h answer = tt

  pub shows_fault_next : (fault : ReaderFault) (past' : Past) → Reads m past before left v batch now left' → now.ended ≡ false
      → TakesBytes left' left'' (ShowsLine now (Err fault) next) → TakesBytes left left'' (ShowsBatch m past before (Err fault) past' next)
  shows_fault_next ReadFault past' h unended takes =
      takes_more m past before left (accepted_behind m v now.number past.closed batch) now left' left'' _ _ h takes
      (λ got none. shows_failed m past before left v batch now left' got h unended none)
  shows_fault_next TooLong past' h unended takes = takes_more m past before left (accepted_behind m v now.number past.closed batch) now left' left'' _ _ h takes (λ got none. tt)
  shows_fault_next OutOfMemory past' h unended takes = takes_more m past before left (accepted_behind m v now.number past.closed batch) now left' left'' _ _ h takes (λ got none. tt)

  -- after a line that leads on
  unfoldable pub reads_more : (v' : Version) (batch' : List Transaction) → Reads m past before left v batch now left' → reading_of now left' ≡ option_map (with_line next.line) (reading_of next left'')
      → TakesBytes left' left'' (ShowsLine now (Ok Line) next) → (next.ended ≡ false → now.ended ≡ false) → next.number ≡ now.number + 1
      → ((r : Reading) → accepted_behind m v now.number past.closed batch (with_line next.line r) ≡ accepted_behind m v' (now.number + 1) past.closed batch' r)
      → Reads m past before left v' batch' next left''
  reads_more v' batch' h told takes unended counts leads =
      reads_as m past before left _ _ next left''
      (reads_line m past before left (accepted_behind m v now.number past.closed batch) now left' next left'' h told takes unended)
      (λ r. leads r ∙ ap (λ n. accepted_behind m v' n past.closed batch' r) (sym counts))

  -- after a line that closes the batch
  pub answers_batch : (past' : Past) → Reads m past before left v batch now left' → reading_of now left' ≡ option_map (with_line next.line) (reading_of next left'')
      → next.number ≡ now.number + 1
      → ((r : Reading) → accepted_behind m v now.number past.closed batch (with_line next.line r) ≡ with_batch batch (accepted_behind m past'.version (now.number + 1) past'.closed [] r))
      → accepted_at m past before left ≡ option_map (with_batch batch) (accepted_at m past' next left'')
  answers_batch past' h told counts leads =
      h.told ∙ ap (option_map (accepted_behind m v now.number past.closed batch)) told
      ∙ map_map (accepted_behind m v now.number past.closed batch) (λ r. with_batch batch (accepted_next m past' next r)) (with_line next.line) (reading_of next left'')
      (λ r. leads r ∙ ap (λ n. with_batch batch (accepted_behind m past'.version n past'.closed [] r)) (sym counts))
      ∙ split_map (λ r. with_batch batch (accepted_next m past' next r)) (with_batch batch) (accepted_next m past' next) (reading_of next left'') (λ r. refl)

  pub shows_batch : (past' : Past) → Reads m past before left v batch now left' → reading_of now left' ≡ option_map (with_line next.line) (reading_of next left'')
      → TakesBytes left' left'' (ShowsLine now (Ok Line) next) → (next.ended ≡ false → now.ended ≡ false) → next.number ≡ now.number + 1
      → ((r : Reading) → accepted_behind m v now.number past.closed batch (with_line next.line r) ≡ with_batch batch (accepted_behind m past'.version (now.number + 1) past'.closed [] r))
      → TakesBytes left left''
      (λ got. next.ended ≡ false → (more : List ℕ) → accepted_next m past before (front (before.kept ++ got ++ more))
      ≡ with_batch batch (accepted_next m past' next (front (next.kept ++ more))))
  shows_batch past' h told takes unended counts leads =
      let reads = reads_line m past before left (accepted_behind m v now.number past.closed batch) now left' next left'' h told takes unended in
      record {
        got = reads.got;
        taken = reads.taken;
        shows = λ open' more. reads.shows open' more ∙ leads (front (next.kept ++ more))
            ∙ ap (λ n. with_batch batch (accepted_behind m past'.version n past'.closed [] (front (next.kept ++ more)))) (sym counts);
      }

  -- after a line that is refused
  pub answers_refused : (cause : Cause) → Reads m past before left v batch now left' → reading_of now left' ≡ option_map (with_line next.line) (reading_of next left'')
      → next.number ≡ now.number + 1
      → ((r : Reading) → accepted_behind m v now.number past.closed batch (with_line next.line r) ≡ record { batches = []; ending = RefusedAt (now.number + 1) cause })
      → IfSome (accepted_at m past before left) (λ all. all ≡ record { batches = []; ending = RefusedAt next.number cause })
  answers_refused cause h told counts leads =
      rw (h.told, told, counts) (by_told (reading_of next left''))
    where
      by_told : (o : Option Reading)
          → IfSome (option_map (accepted_behind m v now.number past.closed batch) (option_map (with_line next.line) o))
          (λ all. all ≡ record { batches = []; ending = RefusedAt (now.number + 1) cause })
      by_told None = tt
      by_told (Some r) = leads r

-- at the start, with no event pending
pub reads_from : (m : Meaning) (past : Past) (v : LinesView) (left : Option (List ℕ)) (batch : List Transaction) → batch ≡ [] → Reads m past v left past.version batch v left
reads_from m past v left batch none = rw none (reads_nothing m past v left)

pub nothing_sound : (version : Version) (layout : Layout) (batch : List Transaction) → batch ≡ [] → IsSoundBatch version layout batch
unfolding IsDistinct
nothing_sound version layout batch none = rw none record {
  valid = record { few = omega arith; valid = All-nil IsTransaction; times = tt; alike = All-nil (HasHigh MAX) };
  keys = All-nil (HasKeysIn layout);
  limits = All-nil (HasHigh (greatest_of version));
}

-- it has read some bytes
pub reads_some : (m : Meaning) (past : Past) (before : LinesView) (left : Option (List ℕ)) (v : Version) (batch : List Transaction) (now : LinesView) (left' left'' : Option (List ℕ)) (Shows Shows' : List ℕ → Type 0)
    → Reads m past before left v batch now left' → TakesBytes left' left'' Shows → ((got : List ℕ) → Shows' got) → TakesBytes left left'' Shows'
reads_some m past before left v batch now left' left'' Shows Shows' h takes shows =
    takes_more m past before left (accepted_behind m v now.number past.closed batch) now left' left'' Shows Shows' h takes (λ got _. shows (h.got ++ got))

-- at the end of the input, with nothing kept
pub ended_told : (m : Meaning) (past : Past) (v : LinesView) (left : Option (List ℕ)) → v.kept ≡ [] → IsTrue v.ended
    → IfSome (accepted_at m past v left) (λ all. all ≡ record { batches = []; ending = Ended })
unfolding accepted_lines
ended_told m past v left none done =
    let same : reading_of v left ≡ option_map (within (room v)) (ahead [] (left_for v left))
    = ap (λ kept. option_map (within (room v)) (ahead kept (left_for v left))) none in
    let ended : IfSome (reading_of v left) (λ r. r ≡ record { lines = []; cut = false })
    = rw same (end_told (left_for v left) (room v) (at_end_for v left done)) in
    if_told (accepted_next m past v) (λ r. r ≡ record { lines = []; cut = false }) (record { batches = []; ending = Ended })
    (reading_of v left) ended (λ r is. ap (accepted_next m past v) is ∙ behind_none m past.version v.number past.closed [] false)

-- an input that has ended stays so
pub stays_ended : (old new : Bool) → (new ≡ false → old ≡ false) → IsTrue old → IsTrue new
stays_ended old true stays ended = refl
stays_ended old false stays ended = absurd (true≢false (sym ended ∙ stays refl))

-- where the end came in one of two calls, a source that is left alone after the end is there
pub ends_later : {S : Type 0} (P : S → Type 0) (old now new : Bool) (before after : S) → (old ≡ false → IsTrue now → P before)
    → (now ≡ false → IsTrue new → P after) → (IsTrue now → after ≡ before) → old ≡ false → IsTrue new → P after
ends_later P old true new before after first second idle unended ended = subst P (sym (idle refl)) (first unended refl)
ends_later P old false new before after first second idle unended ended = second refl ended
