-- Lines of a form: their ranges, their numbers, and what holds of every kind of event.
use Rattle.std.proofs.Common.{◌≡◌, ℕ, zero, suc, ◌+◌, ◌-◌, ◌^◌, ◌<◌, ◌≤◌, Bool, true, false, ◌&&◌, nat_le, List, [], ◌∷◌, ◌++◌, length, take, drop, get_or, map, replicate, refl, sym, ◌∙◌, ap, arith, Result, Ok, Err, subst, length-append, length-drop}
use Rattle.std.specs.Prelude.{◌||◌, decimal, if◌then◌else◌}
use Rattle.std.specs.List.{All, AllByRecursion}
use Rattle.std.proofs.lemmas.Bool.Decides.{nat_tests}
use Rattle.std.proofs.lemmas.List.{length-replicate, length-map, take_all, get_or-take, get_or-drop, get_or_past}
use Rattle.std.proofs.lemmas.List.Elements.{All-nil, All-cons, All-head, All-tail, All-append, All-weaker, All-from_get_or}
use Rattle.morph_base.specs.declared.key.Layout.{Layout}
use Rattle.morph_base.proofs.ShapeLaws.{all_of}
use Rattle.morph_base.specs.Transactions.{Transaction}
use Rattle.event_reader.specs.declared.cause.Cause.{Cause}
use Rattle.event_reader.specs.declared.cause.Cause.TheVariants.{Form as NoForm, Range as OutOfRange, Same}
use Rattle.event_reader.specs.declared.version.Version.{Version}
use Rattle.event_reader.specs.declared.ranges.Range.{Range}
use Rattle.event_reader.specs.Forms.{Form, IsForm, Kind, ranges_of, has_count, has_letter, has_form, numbers_by, said, said_in, unless, event_by}
use Rattle.event_reader.specs.Generated.{IsEventLine}
use Rattle.event_reader.specs.Limits.{greatest_number, line_words}
use Rattle.event_reader.specs.Numbers.{is_in, are_in, numbers_in, cut_value, AreCutNumbers}
use Rattle.event_reader.specs.PlainLines.{plain_line}
use Rattle.event_reader.specs.Ranges.{ids}
use Rattle.event_reader.specs.Reader.{IsOfWords, IsEventOf}
use Rattle.event_reader.proofs.NumberLists.{numbers_are_in, numbers_causes, numbers_are, numbers_out, are_in_at, are_in_end, in_at}
use Rattle.event_reader.proofs.PlainLines.{IsSmall, numbers_plain, plain_event}

pub both : (a b : Bool) → (a && b) ≡ true → (a ≡ true) × (b ≡ true)
both true b is = (refl, is)
both false b is = absurd (cc)

pub neither : (a b : Bool) → (a || b) ≡ false → (a ≡ false) × (b ≡ false)
neither true b is = absurd (cc)
neither false b is = (refl, is)

-- the range of a place
pub range_at : (form : Form) (count i : ℕ) → get_or (ranges_of form count) i form.more ≡ get_or form.places i form.more
range_at form count i = by_place form.places i
  where
    repeated : (many j : ℕ) → get_or (replicate many form.more) j form.more ≡ form.more
    repeated zero j = refl
    repeated (suc many) zero = refl
    repeated (suc many) (suc j) = repeated many j

    by_place : (places : List Range) (j : ℕ) → get_or (places ++ replicate (count - length form.places) form.more) j form.more ≡ get_or places j form.more
    by_place [] j = repeated (count - length form.places) j
    by_place (place ∷ places) zero = refl
    by_place (place ∷ places) (suc j) = by_place places j

pub length-ranges : (form : Form) (count : ℕ) → length form.places ≤ count → length (ranges_of form count) ≡ count
length-ranges form count enough =
    omega (arith, length-append form.places (replicate (count - length form.places) form.more), length-replicate (count - length form.places) form.more)

-- the numbers from a place on are in their ranges where this one is and those after it are
pub range_step : (form : Form) (ns : List ℕ) (i : ℕ) (range : Range) (found here : Bool) → length form.places ≤ length ns → i < length ns
    → range ≡ get_or form.places i form.more → found ≡ is_in range (get_or ns i 0) → found ≡ here
    → are_in (drop i (ranges_of form (length ns))) (drop i ns) ≡ (here && are_in (drop (i + 1) (ranges_of form (length ns))) (drop (i + 1) ns))
range_step form ns i range found here enough inside is found_is now =
    let ranges : List Range = ranges_of form (length ns) in
    let same : is_in (get_or ranges i form.more) (get_or ns i 0) ≡ here
    = ap (λ r. is_in r (get_or ns i 0)) (range_at form (length ns) i ∙ sym is) ∙ sym found_is ∙ now in
    are_in_at ranges ns i form.more (omega (arith, length-ranges form (length ns) enough)) inside
    ∙ ap (λ b. b && are_in (drop (i + 1) ranges) (drop (i + 1) ns)) same

pub ranges_end : (form : Form) (ns : List ℕ) (i : ℕ) → length form.places ≤ length ns → length ns ≤ i
    → are_in (drop i (ranges_of form (length ns))) (drop i ns) ≡ true
ranges_end form ns i enough past =
    are_in_end (ranges_of form (length ns)) ns i (omega (arith, length-ranges form (length ns) enough)) past

-- numbers that a line of a form can have
pub record Fits (form : Form) (ns : List ℕ) : Type 0 where
  pub count : has_count form (length ns) ≡ true
  pub inside : are_in (ranges_of form (length ns)) ns ≡ true

pub count_of : (form : Form) (count : ℕ) → has_count form count ≡ true → (length form.places + form.least ≤ count) × (count ≤ length form.places + form.most)
count_of form count is =
    let parts = both (nat_le (length form.places + form.least) count) (nat_le count (length form.places + form.most)) is in
    (grind (arith, nat_tests, parts.0), grind (arith, nat_tests, parts.1))

-- each number is in the range of its place
bounds : (range : Range) (n : ℕ) → is_in range n ≡ true → (range.least ≤ n) × (n ≤ range.greatest)
bounds range n is =
    let parts = both (nat_le range.least n) (nat_le n range.greatest) is in
    (grind (arith, nat_tests, parts.0), grind (arith, nat_tests, parts.1))

pub place : (form : Form) (ns : List ℕ) (i : ℕ) (range : Range) → Fits form ns → i < length form.places → get_or form.places i form.more ≡ range
    → (range.least ≤ get_or ns i 0) × (get_or ns i 0 ≤ range.greatest)
place form ns i range fits inside is =
    let ranges : List Range = ranges_of form (length ns) in
    let counts = count_of form (length ns) fits.count in
    bounds range (get_or ns i 0)
    (ap (λ r. is_in r (get_or ns i 0)) (sym (range_at form (length ns) i ∙ is))
    ∙ in_at ranges ns i form.more fits.inside (omega (arith, length-ranges form (length ns) (omega (arith, counts.0)), counts.0)) (omega (arith, counts.0)))

-- and each behind the places in that of the numbers that follow
abbrev pub IsInRange : Range → ℕ → Type 0
IsInRange range n = (range.least ≤ n) × (n ≤ range.greatest)

pub rest_in : (form : Form) (ns : List ℕ) → Fits form ns → All (IsInRange form.more) (drop (length form.places) ns)
rest_in form ns fits = All-from_get_or (IsInRange form.more) (drop (length form.places) ns) 0 at
  where
    at : (i : ℕ) → i < length (drop (length form.places) ns) → IsInRange form.more (get_or (drop (length form.places) ns) i 0)
    at i inside =
        let ranges : List Range = ranges_of form (length ns) in
        let j : ℕ = length form.places + i in
        let counts = count_of form (length ns) fits.count in
        let here : j < length ns = omega (arith, length-drop (length form.places) ns, inside) in
        let past : get_or form.places j form.more ≡ form.more = get_or_past form.places j form.more (omega arith) in
        let found = bounds form.more (get_or ns j 0)
        (ap (λ r. is_in r (get_or ns j 0)) (sym (range_at form (length ns) j ∙ past))
        ∙ in_at ranges ns j form.more fits.inside (omega (arith, here, length-ranges form (length ns) (omega (arith, counts.0)))) here) in
        subst (IsInRange form.more) (sym (get_or-drop (length form.places) ns i 0)) found

-- the numbers that are read fit the form
abbrev read : List ℕ → Result (List ℕ) Cause
read numbers = Ok numbers

abbrev refused : Cause → Result (List ℕ) Cause
refused cause = Err cause

pub read_fits : (form : Form) (words : List (List ℕ)) (ns : List ℕ) → numbers_by form words ≡ Ok ns → Fits form ns
read_fits form words ns is = by_tests (has_letter form words) (has_count form (length words - 1)) refl is
  where
    by_tests : (letter count : Bool) → has_count form (length words - 1) ≡ count
        → (if letter && count then numbers_in (ranges_of form (length words - 1)) (drop 1 words) else Err NoForm) ≡ read ns → Fits form ns
    by_tests true true counts is =
        let parts = numbers_are_in (ranges_of form (length words - 1)) (drop 1 words) ns is in
        let same : length words - 1 ≡ length ns = omega (arith, parts.0, length-drop 1 words) in record {
          count = subst (λ n. has_count form n ≡ true) same counts;
          inside = subst (λ n. are_in (ranges_of form n) ns ≡ true) same parts.1;
        }
    by_tests true false counts is = absurd (cc)
    by_tests false count counts is = absurd (cc)

all_replicate : (P : Range → Type 0) (many : ℕ) (range : Range) → P range → All P (replicate many range)
all_replicate P zero range here = All-nil P
all_replicate P (suc many) range here = All-cons P range (replicate many range) here (all_replicate P many range here)

-- what a program reads by the form that it made: the first of the numbers, as they stand in an array, and in their ranges
module _ (form made : Form) (words : List (List ℕ)) (answer : Result (List ℕ) Cause) (ns first : List ℕ) (same : made ≡ form)
    (is : answer ≡ numbers_by made words) (found : answer ≡ Ok ns) (firsts : first ≡ take (length form.places) ns) where
  pub read_by : numbers_by form words ≡ Ok ns
  read_by = ap (λ f. numbers_by f words) (sym same) ∙ sym is ∙ found

  pub first_is : (i : ℕ) → i < length form.places → get_or first i 0 ≡ get_or ns i 0
  first_is i inside = ap (λ xs. get_or xs i 0) firsts ∙ get_or-take (length form.places) ns i 0 inside

  pub first_at : (i : ℕ) (range : Range) → i < length form.places → get_or form.places i form.more ≡ range
      → (range.least ≤ get_or first i 0) × (get_or first i 0 ≤ range.greatest)
  first_at i range inside here =
      let at = place form ns i range (read_fits form words ns read_by) inside here in
      (omega (arith, first_is i inside, at.0), omega (arith, first_is i inside, at.1))

  -- an id fits 32 bits
  pub id_at : (i size : ℕ) → i < length form.places → get_or form.places i form.more ≡ ids size → size < 2 ^ 32 → get_or first i 0 < 2 ^ 32
  id_at i size inside here small = let at = first_at i (ids size) inside here in omega (arith, at.0, at.1)

  pub rest_ids : (rest : List ℕ) (size : ℕ) → rest ≡ drop (length form.places) ns → form.more ≡ ids size → size < 2 ^ 32 → All (λ id. id < 2 ^ 32) rest
  rest_ids rest size is here small =
      let last : form.more.greatest < 2 ^ 32 = omega (arith, ap (λ r. r.greatest) here, small) in
      subst (All (λ id. id < 2 ^ 32)) (sym is)
      (All-weaker (IsInRange form.more) (λ id. id < 2 ^ 32) (λ id at. omega (arith, at.1, last)) (drop (length form.places) ns)
      (rest_in form ns (read_fits form words ns read_by)))

  -- those behind them are as many as may follow
  pub rest_few : (rest : List ℕ) → rest ≡ drop (length form.places) ns → length rest ≤ form.most
  rest_few rest is =
      let counts = count_of form (length ns) (read_fits form words ns read_by).count in
      omega (arith, ap length is, length-drop (length form.places) ns, counts.1)

  -- they are all, where no more can follow
  pub first_all : form.most ≡ 0 → ns ≡ first
  first_all none =
      let counts = count_of form (length ns) (read_fits form words ns read_by).count in
      sym (firsts ∙ take_all (length form.places) ns (omega (arith, counts.1)))

-- numbers that were read, each cut where it is too great, are the answer where they are in their ranges
small_ranges : (form : Form) (count : ℕ) → IsForm form → All (λ range. range.greatest ≤ greatest_number) (ranges_of form count)
small_ranges form count is =
    All-append (λ r. r.greatest ≤ greatest_number) form.places (replicate (count - length form.places) form.more) is.small
    (all_replicate (λ r. r.greatest ≤ greatest_number) (count - length form.places) form.more is.small_more)

module _ (form : Form) (words : List (List ℕ)) (ns : List ℕ) (formed found : Bool) (is : IsForm form) (form_is : formed ≡ has_form form words)
    (has : formed ≡ true) (cut : AreCutNumbers (drop 1 words) ns) (found_is : found ≡ are_in (ranges_of form (length ns)) ns) where
  many : length ns ≡ length words - 1
  many = ap length cut.values ∙ omega (arith, length-map (drop 1 words) cut_value, length-drop 1 words)

  inside : are_in (ranges_of form (length words - 1)) ns ≡ found
  inside = ap (λ n. are_in (ranges_of form n) ns) (sym many) ∙ sym found_is

  shape : has_form form words ≡ true
  shape = sym form_is ∙ has

  pub read_is : found ≡ true → numbers_by form words ≡ Ok ns
  read_is fits =
      let counts = count_of form (length words - 1) (both (has_letter form words) (has_count form (length words - 1)) shape).1 in
      rw shape
      (numbers_are (ranges_of form (length words - 1)) (drop 1 words) ns
      (omega (arith, length-ranges form (length words - 1) (omega (arith, counts.0)), length-drop 1 words))
      (small_ranges form (length words - 1) is) cut (inside ∙ fits))

  pub read_out : found ≡ false → numbers_by form words ≡ Err OutOfRange
  read_out fails = rw shape (numbers_out (ranges_of form (length words - 1)) (drop 1 words) ns (small_ranges form (length words - 1) is) cut (inside ∙ fails))

-- words that are not read are refused as form or range
pub read_causes : (form : Form) (words : List (List ℕ)) (cause : Cause) → numbers_by form words ≡ Err cause → IsOfWords cause
read_causes form words cause is = by_test (has_form form words) is
  where
    by_test : (formed : Bool) → (if formed then numbers_in (ranges_of form (length words - 1)) (drop 1 words) else Err NoForm) ≡ Err cause → IsOfWords cause
    by_test true is = numbers_causes (ranges_of form (length words - 1)) (drop 1 words) cause is
    by_test false is = let same : NoForm ≡ cause = cc in subst IsOfWords same tt

-- a kind of event line is sound for a layout where each event that it says of numbers that fit is valid, with its keys in
-- the layout, and else the cause is one of words
pub record IsSound (version : Version) (layout : Layout) (kind : Kind) : Type 0 where
  pub valid : (ns : List ℕ) (e : Transaction) → Fits kind.form ns → kind.says ns ≡ Ok e → IsEventOf version layout e
  pub causes : (ns : List ℕ) (cause : Cause) → kind.says ns ≡ Err cause → IsOfWords cause

abbrev pub AreSound : Version → Layout → List Kind → Type 0
AreSound version layout [] = Unit {0}
AreSound version layout (kind ∷ kinds) = IsSound version layout kind × AreSound version layout kinds

pub unless_ok : (same : Bool) (t e : Transaction) → unless same t ≡ Ok e → (same ≡ false) × (t ≡ e)
unless_ok true t e is = absurd (cc)
unless_ok false t e is = (refl, cc)

pub unless_err : (same : Bool) (t : Transaction) (cause : Cause) → unless same t ≡ Err cause → Same ≡ cause
unless_err true t cause is = cc
unless_err false t cause is = absurd (cc)

-- so each event of their lines is valid, and there are no other causes than form, range and same
said_valid : (version : Version) (layout : Layout) (kind : Kind) (words : List (List ℕ)) (e : Transaction) → IsSound version layout kind → said_in kind words ≡ Ok e
    → IsEventOf version layout e
said_valid version layout kind words e sound is = by_read (numbers_by kind.form words) refl is
  where
    by_read : (r : Result (List ℕ) Cause) → numbers_by kind.form words ≡ r → said kind.says r ≡ Ok e → IsEventOf version layout e
    by_read (Ok ns) found is = sound.valid ns e (read_fits kind.form words ns found) is
    by_read (Err cause) found is = absurd (cc)

pub events_valid : (version : Version) (layout : Layout) (kinds : List Kind) → AreSound version layout kinds → (words : List (List ℕ)) (e : Transaction) → event_by kinds words ≡ Ok e
    → IsEventOf version layout e
events_valid version layout [] sound words e is = absurd (cc)
events_valid version layout (kind ∷ kinds) sound words e is =
    by_letter (has_letter kind.form words) is (said_valid version layout kind words e sound.0) (events_valid version layout kinds sound.1 words e)
  where
    by_letter : (here : Bool) → (if here then said_in kind words else event_by kinds words) ≡ Ok e
        → (said_in kind words ≡ Ok e → IsEventOf version layout e) → (event_by kinds words ≡ Ok e → IsEventOf version layout e)
        → IsEventOf version layout e
    by_letter true is first others = first is
    by_letter false is first others = others is

said_causes : (version : Version) (layout : Layout) (kind : Kind) (words : List (List ℕ)) (cause : Cause) → IsSound version layout kind → said_in kind words ≡ Err cause → IsOfWords cause
said_causes version layout kind words cause sound is = by_read (numbers_by kind.form words) refl is
  where
    by_read : (r : Result (List ℕ) Cause) → numbers_by kind.form words ≡ r → said kind.says r ≡ Err cause → IsOfWords cause
    by_read (Ok ns) found is = sound.causes ns cause is
    by_read (Err c) found is = read_causes kind.form words cause (let same : c ≡ cause = cc in found ∙ ap refused same)

pub events_causes : (version : Version) (layout : Layout) (kinds : List Kind) → AreSound version layout kinds → (words : List (List ℕ)) (cause : Cause) → event_by kinds words ≡ Err cause
    → IsOfWords cause
events_causes version layout [] sound words cause is = let same : NoForm ≡ cause = cc in subst IsOfWords same tt
events_causes version layout (kind ∷ kinds) sound words cause is =
    by_letter (has_letter kind.form words) is (said_causes version layout kind words cause sound.0) (events_causes version layout kinds sound.1 words cause)
  where
    by_letter : (here : Bool) → (if here then said_in kind words else event_by kinds words) ≡ Err cause
        → (said_in kind words ≡ Err cause → IsOfWords cause) → (event_by kinds words ≡ Err cause → IsOfWords cause) → IsOfWords cause
    by_letter true is first others = first is
    by_letter false is first others = others is

-- numbers that fit a form are ones that a word can say
small_by_ranges : (ranges : List Range) (ns : List ℕ) → length ranges ≡ length ns → All (λ range. range.greatest ≤ greatest_number) ranges → are_in ranges ns ≡ true
    → All IsSmall ns
unfolding are_in
small_by_ranges [] [] same small fits = All-nil IsSmall
small_by_ranges [] (n ∷ ns) same small fits = absurd (omega arith)
small_by_ranges (range ∷ ranges) [] same small fits = absurd (omega arith)
small_by_ranges (range ∷ ranges) (n ∷ ns) same small fits =
    let parts = both (is_in range n) (are_in ranges ns) fits in
    let below : n ≤ range.greatest = grind (arith, nat_tests, (both (nat_le range.least n) (nat_le n range.greatest) parts.0).1) in
    All-cons IsSmall n ns (omega (arith, below, All-head (λ r. r.greatest ≤ greatest_number) range ranges small))
    (small_by_ranges ranges ns (omega arith) (All-tail (λ r. r.greatest ≤ greatest_number) range ranges small) parts.1)

pub all_small : (form : Form) (ns : List ℕ) → IsForm form → Fits form ns → All IsSmall ns
all_small form ns is fits =
    let counts = count_of form (length ns) fits.count in
    small_by_ranges (ranges_of form (length ns)) ns (length-ranges form (length ns) (omega (arith, counts.0)))
    (small_ranges form (length ns) is) fits.inside

-- a form whose ranges are told one by one
abbrev IsLow : Range → Type 0
IsLow range = range.greatest ≤ greatest_number

pub is_form : (form : Form) → length form.places + form.most < line_words → form.least ≤ form.most → AllByRecursion IsLow form.places → IsLow form.more → IsForm form
is_form form few ordered small more = record { few = few; ordered = ordered; small = all_of IsLow form.places small; small_more = more }

-- written as a line, they are read back
pub said_plain : (kind : Kind) (ns : List ℕ) → IsForm kind.form → Fits kind.form ns
    → said_in kind ((kind.form.letter ∷ []) ∷ map decimal ns) ≡ kind.says ns
said_plain kind ns is fits =
    let words : List (List ℕ) = (kind.form.letter ∷ []) ∷ map decimal ns in
    let many : length words - 1 ≡ length ns = omega (arith, length-map ns decimal) in
    let letter : has_letter kind.form words ≡ true = grind (arith, nat_tests) in
    let counts : has_count kind.form (length words - 1) ≡ true = rw many fits.count in
    let formed : has_form kind.form words ≡ true = rw (letter, counts) refl in
    let read : numbers_by kind.form words ≡ Ok ns
    = rw (formed, many) (numbers_plain (ranges_of kind.form (length ns)) ns (all_small kind.form ns is fits) fits.inside) in
    ap (said kind.says) read

-- and so it is an event's line, where the kind is the first with its letter
pub kind_line : (kinds : List Kind) (kind : Kind) (i : ℕ) (ns : List ℕ) (e : Transaction) → IsForm kind.form → Fits kind.form ns
    → 35 < kind.form.letter → 0 < length ns
    → event_by kinds ((kind.form.letter ∷ []) ∷ map decimal ns) ≡ said_in kind ((kind.form.letter ∷ []) ∷ map decimal ns)
    → kind.says ns ≡ Ok e → e.ts ≡ i → IsEventLine (event_by kinds) i (plain_line kind.form.letter ns)
kind_line kinds kind i ns e is fits visible some first says time =
    let counts = count_of kind.form (length ns) fits.count in
    plain_event (event_by kinds) i kind.form.letter ns e visible some (omega (arith, counts.1, is.few)) (all_small kind.form ns is fits)
    (first ∙ said_plain kind ns is fits ∙ says) time
