-- What a front of an input decides holds of the whole input: its batches are the first, and its refused line is the first.
use Rattle.std.proofs.Common.{◌≡◌, ℕ, ◌+◌, ◌-◌, ◌<◌, ◌≤◌, Bool, true, false, nat_le, if◌then◌else◌, List, [], ◌∷◌, ◌++◌, length, take, drop, map, refl, sym, ◌∙◌, ap, subst, arith, length-append, append-nil, Some, inl, inr}
use Rattle.std.specs.Prelude.{nat_lt}
use Rattle.std.specs.List.{onto_first}
use Rattle.std.proofs.lemmas.Bool.{cases_lt}
use Rattle.std.proofs.lemmas.Bool.Decides.{nat_tests}
use Rattle.std.proofs.lemmas.List.{take-append-drop}
use Rattle.morph_base.specs.Transactions.{Transaction}
use Rattle.morph_io.specs.Told.{ahead}
use Rattle.event_reader.specs.Limits.{longest_line, deciding_bytes}
use Rattle.event_reader.specs.declared.cause.Cause.{Cause}
use Rattle.event_reader.specs.declared.cause.Cause.TheVariants.{Long}
use Rattle.event_reader.specs.Lines.{is_line_feed, pieces, last_if, without_cr, lines_of, decided_lines, within}
use Rattle.event_reader.specs.declared.version.Version.TheVariants.{One, Two}
use Rattle.event_reader.specs.Versions.{is_version_line, has_version_line}
use Rattle.event_reader.specs.VersionLaws.{long_plain}
use Rattle.event_reader.specs.Steps.{Rules, Meaning, rules_of, Step, Ignored, Closes, Adds, Refuses, latest_with, step_of}
use Rattle.event_reader.specs.Accepted.{Accepted, Ending, Ended, RefusedAt, CutOff, with_batch, led_by, accepted_lines, accepted_first, accepted, accepted_within, closed_batches}
use Rattle.event_reader.specs.Reader.{new_reader, accepted_by}
use Rattle.event_reader.proofs.Pieces.{some_piece, first_if, length-without_cr}

-- pieces of which the last goes on, and others follow it
data GoesOn : List (List ℕ) → List (List ℕ) → Type 0 where
  last : (piece more : List ℕ) (next : List (List ℕ)) → GoesOn (piece ∷ []) ((piece ++ more) ∷ next)
  same : (piece next next' : List ℕ) (more more' : List (List ℕ)) → GoesOn (next ∷ more) (next' ∷ more') → GoesOn (piece ∷ next ∷ more) (piece ∷ next' ∷ more')

-- lines that are decided, and the lines of an input that begins with them
data Extends : List (List ℕ) → List (List ℕ) → Type 0 where
  nothing : (lines : List (List ℕ)) → Extends [] lines
  one : (line : List ℕ) (lines lines' : List (List ℕ)) → Extends lines lines' → Extends (line ∷ lines) (line ∷ lines')
  long : (line line' : List ℕ) (lines' : List (List ℕ)) → longest_line < length line → longest_line < length line' → Extends (line ∷ []) (line' ∷ lines')

goes_on_first : (b : ℕ) (ps qs : List (List ℕ)) → GoesOn ps qs → GoesOn (onto_first b ps) (onto_first b qs)
goes_on_first b _ _ (last piece more next) = last (b ∷ piece) more next
goes_on_first b _ _ (same piece next next' more more' h) = same (b ∷ piece) next next' more more' h

pieces_go_on : (bytes rest : List ℕ) → GoesOn (pieces bytes) (pieces (bytes ++ rest))
pieces_go_on [] rest = let some = some_piece is_line_feed rest in rw some.2 (last [] some.0 some.1)
pieces_go_on (b ∷ bytes) rest =
    by_test (is_line_feed b) (some_piece is_line_feed bytes) (some_piece is_line_feed (bytes ++ rest)) (pieces_go_on bytes rest)
  where
    by_test : (t : Bool) → (p : List ℕ) × (ps : List (List ℕ)) × (pieces bytes ≡ p ∷ ps) → (q : List ℕ) × (qs : List (List ℕ)) × (pieces (bytes ++ rest) ≡ q ∷ qs)
        → GoesOn (pieces bytes) (pieces (bytes ++ rest))
        → GoesOn (if t then [] ∷ pieces bytes else onto_first b (pieces bytes)) (if t then [] ∷ pieces (bytes ++ rest) else onto_first b (pieces (bytes ++ rest)))
    by_test true (p, ps, e) (q, qs, e') h = rw (e, e') (same [] p q ps qs (rw (e, e') at h))
    by_test false some some' h = goes_on_first b (pieces bytes) (pieces (bytes ++ rest)) h

extends_from : (ps qs : List (List ℕ)) → GoesOn ps qs
    → Extends (map without_cr (last_if (λ piece. nat_le deciding_bytes (length piece)) ps)) (map without_cr (last_if (λ piece. nat_le 1 (length piece)) qs))
unfolding last_if
extends_from _ _ (same piece next next' more more' h) =
    one (without_cr piece) _ _ (extends_from (next ∷ more) (next' ∷ more') h)
extends_from _ _ (last piece more next) = by_test (nat_le deciding_bytes (length piece)) refl
  where
    by_test : (t : Bool) → nat_le deciding_bytes (length piece) ≡ t
        → Extends (map without_cr (if t then piece ∷ [] else [])) (map without_cr (last_if (λ piece. nat_le 1 (length piece)) ((piece ++ more) ∷ next)))
    by_test false is = nothing _
    by_test true is =
        let many : deciding_bytes ≤ length piece = grind (arith, nat_tests) in
        let some : nat_le 1 (length (piece ++ more)) ≡ true = grind (arith, nat_tests, length-append piece more) in
        let first = first_if (λ piece. nat_le 1 (length piece)) (piece ++ more) next some in
        rw first.1
        (long (without_cr piece) (without_cr (piece ++ more)) first.0 (omega (arith, length-without_cr piece))
        (omega (arith, length-without_cr (piece ++ more), length-append piece more)))

-- the batches are the first of all, and a refused line ends all
pub record IsFrontOf (some all : Accepted) : Type 0 where
  pub more : List (List Transaction)
  pub batches : all.batches ≡ some.batches ++ more
  pub refused : (line : ℕ) (cause : Cause) → some.ending ≡ RefusedAt line cause → all ≡ some

front_with : (batch : List Transaction) (some all : Accepted) → IsFrontOf some all → IsFrontOf (with_batch batch some) (with_batch batch all)
front_with [] some all h = h
front_with (e ∷ es) some all h = record {
  more = h.more;
  batches = ap (λ bs. (e ∷ es) ∷ bs) h.batches;
  refused = λ line cause is. ap (with_batch (e ∷ es)) (h.refused line cause is);
}

same_front : (all : Accepted) → IsFrontOf all all
same_front all = record { more = []; batches = sym (append-nil all.batches); refused = λ line cause is. refl }

front_led : (step : Step) (n closed : ℕ) (batch : List Transaction) (some all : ℕ → List Transaction → Accepted)
    → ((closed' : ℕ) (batch' : List Transaction) → IsFrontOf (some closed' batch') (all closed' batch'))
    → IsFrontOf (led_by step n closed batch some) (led_by step n closed batch all)
front_led Ignored n closed batch some all h = h closed batch
front_led Closes n closed batch some all h = front_with batch (some (latest_with batch closed) []) (all (latest_with batch closed) []) (h (latest_with batch closed) [])
front_led (Adds e) n closed batch some all h = h closed (batch ++ e ∷ [])
front_led (Refuses cause) n closed batch some all h = same_front (record { batches = []; ending = RefusedAt (n + 1) cause })

front_lines : (m : Rules) (n closed : ℕ) (batch : List Transaction) (lines lines' : List (List ℕ)) → Extends lines lines'
    → IsFrontOf (accepted_lines m n closed batch lines true) (accepted_lines m n closed batch lines' false)
unfolding accepted_lines step_of
front_lines m n closed batch _ _ (nothing lines') = record {
  more = (accepted_lines m n closed batch lines' false).batches;
  batches = refl;
  refused = λ line cause is. absurd (cc);
}
front_lines m n closed batch _ _ (one line lines lines' h) =
    front_led (step_of m closed batch line) n closed batch _ _ (λ closed' batch'. front_lines m (n + 1) closed' batch' lines lines' h)
front_lines m n closed batch _ _ (long line line' lines' is is') =
    let too_long : nat_lt longest_line (length line) ≡ true = grind (arith, nat_tests) in
    let too_long' : nat_lt longest_line (length line') ≡ true = grind (arith, nat_tests) in
    rw (too_long, too_long') (same_front (record { batches = []; ending = RefusedAt (n + 1) Long }))

-- so it is from the first line on
abbrev cut_lines : Meaning → List (List ℕ) → Accepted
cut_lines m lines = accepted_first m 0 [] (record { lines = lines; cut = true })

abbrev whole_lines : Meaning → List (List ℕ) → Accepted
whole_lines m lines = accepted_first m 0 [] (record { lines = lines; cut = false })

first_front : (m : Meaning) (lines lines' : List (List ℕ)) → Extends lines lines' → IsFrontOf (cut_lines m lines) (whole_lines m lines')
unfolding accepted_lines
first_front m _ _ (nothing lines') = record {
  more = (whole_lines m lines').batches;
  batches = refl;
  refused = λ line cause is. absurd (cc);
}
first_front m _ _ (one line lines lines' h) = by_test (is_version_line line) refl
  where
    by_test : (t : Bool) → is_version_line line ≡ t → IsFrontOf (cut_lines m (line ∷ lines)) (whole_lines m (line ∷ lines'))
    by_test true is = rw is (front_lines (rules_of m Two) 1 0 [] lines lines' h)
    by_test false is = rw is (front_lines (rules_of m One) 0 0 [] (line ∷ lines) (line ∷ lines') (one line lines lines' h))
first_front m _ _ (long line line' lines' is is') =
    rw (long_plain line is, long_plain line' is') (front_lines (rules_of m One) 0 0 [] (line ∷ []) (line' ∷ lines') (long line line' lines' is is'))

-- what a front of an input decides is the first of what the input has
pub front_is_first : (m : Meaning) (bytes rest : List ℕ) → IsFrontOf (cut_lines m (decided_lines bytes)) (accepted m (bytes ++ rest))
front_is_first m bytes rest =
    first_front m (decided_lines bytes) (lines_of (bytes ++ rest)) (extends_from (pieces bytes) (pieces (bytes ++ rest)) (pieces_go_on bytes rest))

-- a batch more leaves the ending
ending_with : (P : Ending → Type 0) (batch : List Transaction) (all : Accepted) → P all.ending → P (with_batch batch all).ending
ending_with P [] all h = h
ending_with P (e ∷ es) all h = h

ending_led : (P : Ending → Type 0) (step : Step) (n closed : ℕ) (batch : List Transaction) (after : ℕ → List Transaction → Accepted)
    → ((closed' : ℕ) (batch' : List Transaction) → P (after closed' batch').ending) → ((cause : Cause) → P (RefusedAt (n + 1) cause))
    → P (led_by step n closed batch after).ending
ending_led P Ignored n closed batch after h refused = h closed batch
ending_led P Closes n closed batch after h refused = ending_with P batch (after (latest_with batch closed) []) (h (latest_with batch closed) [])
ending_led P (Adds e) n closed batch after h refused = h closed (batch ++ e ∷ [])
ending_led P (Refuses cause) n closed batch after h refused = refused cause

-- lines that are cut off do not end the input, and others are not cut off
cut_ending : (m : Rules) (n closed : ℕ) (batch : List Transaction) (lines : List (List ℕ)) → (accepted_lines m n closed batch lines true).ending ≡ Ended → ⊥
unfolding accepted_lines
cut_ending m n closed batch [] = λ is. absurd (cc)
cut_ending m n closed batch (line ∷ lines) =
    ending_led (λ e. e ≡ Ended → ⊥) (step_of m closed batch line) n closed batch _ (λ closed' batch'. cut_ending m (n + 1) closed' batch' lines)
    (λ cause is. absurd (cc))

whole_ending : (m : Rules) (n closed : ℕ) (batch : List Transaction) (lines : List (List ℕ)) → (accepted_lines m n closed batch lines false).ending ≡ CutOff → ⊥
unfolding accepted_lines
whole_ending m n closed batch [] = ending_with (λ e. e ≡ CutOff → ⊥) batch (record { batches = []; ending = Ended }) (λ is. absurd (cc))
whole_ending m n closed batch (line ∷ lines) =
    ending_led (λ e. e ≡ CutOff → ⊥) (step_of m closed batch line) n closed batch _ (λ closed' batch'. whole_ending m (n + 1) closed' batch' lines)
    (λ cause is. absurd (cc))

cut_ending_first : (m : Meaning) (lines : List (List ℕ)) → (cut_lines m lines).ending ≡ Ended → ⊥
cut_ending_first m lines = by_test (has_version_line lines) refl
  where
    by_test : (t : Bool) → has_version_line lines ≡ t → (cut_lines m lines).ending ≡ Ended → ⊥
    by_test true is = rw is (cut_ending (rules_of m Two) 1 0 [] (drop 1 lines))
    by_test false is = rw is (cut_ending (rules_of m One) 0 0 [] lines)

whole_ending_first : (m : Meaning) (lines : List (List ℕ)) → (whole_lines m lines).ending ≡ CutOff → ⊥
whole_ending_first m lines = by_test (has_version_line lines) refl
  where
    by_test : (t : Bool) → has_version_line lines ≡ t → (whole_lines m lines).ending ≡ CutOff → ⊥
    by_test true is = rw is (whole_ending (rules_of m Two) 1 0 [] (drop 1 lines))
    by_test false is = rw is (whole_ending (rules_of m One) 0 0 [] lines)

-- what is read within a limit: all of a shorter input, and of another what its first bytes decide
pub data ReadsWithin (m : Meaning) (limit : ℕ) (input : List ℕ) : Type 0 where
  all_of_it : length input ≤ limit → accepted_within m limit input ≡ accepted m input → ReadsWithin m limit input
  front_of_it : limit < length input → accepted_within m limit input ≡ cut_lines m (decided_lines (take limit input)) → ReadsWithin m limit input

pub reads_within : (m : Meaning) (limit : ℕ) (input : List ℕ) → ReadsWithin m limit input
unfolding within
reads_within m limit input = elim (cases_lt limit (length input)) [
  | inl many ↦ let fails : nat_le (length input) limit ≡ false = grind (arith, nat_tests) in front_of_it many (rw fails refl)
  | inr few ↦ let passes : nat_le (length input) limit ≡ true = grind (arith, nat_tests) in all_of_it few (rw passes refl)
]

-- its batches are the first of the whole input, and a line that it refuses is the first that is refused
pub within_is_first : (m : Meaning) (limit : ℕ) (input : List ℕ) → IsFrontOf (accepted_within m limit input) (accepted m input)
within_is_first m limit input = elim (reads_within m limit input) [
  | all_of_it few is ↦ rw is (same_front (accepted m input))
  | front_of_it many is ↦ rw is
      (subst (λ bytes. IsFrontOf (cut_lines m (decided_lines (take limit input))) (accepted m bytes)) (take-append-drop limit input)
      (front_is_first m (take limit input) (drop limit input)))
]

-- where it comes to the end of the input, the input is no longer than the limit, and all of it was read
pub within_ended : (m : Meaning) (limit : ℕ) (input : List ℕ) → (accepted_within m limit input).ending ≡ Ended
    → (length input ≤ limit) × (accepted m input ≡ accepted_within m limit input)
within_ended m limit input ended = elim (reads_within m limit input) [
  | all_of_it few is ↦ (few, sym is)
  | front_of_it many is ↦ absurd (cut_ending_first m (decided_lines (take limit input)) (ap (λ a. a.ending) (sym is) ∙ ended))
]

-- where it refuses a line, that line is the first that is refused
pub within_refused : (m : Meaning) (limit : ℕ) (input : List ℕ) (line : ℕ) (cause : Cause) → (accepted_within m limit input).ending ≡ RefusedAt line cause
    → accepted m input ≡ accepted_within m limit input
within_refused m limit input line cause is = (within_is_first m limit input).refused line cause is

-- where it is cut off, the input is longer than the limit, and the batches are those closed within the first bytes
pub within_cut : (m : Meaning) (limit : ℕ) (input : List ℕ) → (accepted_within m limit input).ending ≡ CutOff
    → (limit < length input) × ((accepted_within m limit input).batches ≡ closed_batches m (take limit input))
within_cut m limit input cut = elim (reads_within m limit input) [
  | all_of_it few is ↦ absurd (whole_ending_first m (lines_of input) (ap (λ a. a.ending) (sym is) ∙ cut))
  | front_of_it many is ↦ (many, ap (λ a. a.batches) is)
]

-- a new reader has all of the input to give, within its limit
pub new_reader_accepts : {App : Type 0} (event_of : App → ℕ → Meaning) (app : App) (size limit : ℕ) (input : List ℕ)
    → accepted_by event_of (new_reader app size limit) (Some input) ≡ Some (accepted_within (event_of app size) limit input)
unfolding ahead
new_reader_accepts event_of app size limit input =
    let room : 0 + (limit - 0) ≡ limit = omega arith in
    ap (λ n. Some (accepted_first (event_of app size) 0 [] (within n input))) room
