-- The numbers that words say, and their ranges.
use Rattle.std.proofs.Common.{◌≡◌, ℕ, zero, suc, ◌+◌, ◌<◌, ◌≤◌, Bool, true, false, ◌&&◌, nat_le, min, List, [], ◌∷◌, ◌++◌, length, take, drop, get_or, set, map, refl, sym, ◌∙◌, ap, arith, Result, Ok, Err, inl, inr, subst}
use Rattle.std.specs.Prelude.{if◌then◌else◌}
use Rattle.event_reader.specs.declared.cause.Cause.{Cause}
use Rattle.event_reader.specs.declared.cause.Cause.TheVariants.{Form}
use Rattle.std.specs.List.{All, list_all}
use Rattle.std.proofs.lemmas.Bool.{cases_lt}
use Rattle.std.proofs.lemmas.Bool.Decides.{nat_tests}
use Rattle.std.proofs.lemmas.List.{drop_more, get_or-drop, take_more_set, map_more, drop_all, take_all, length-map, length-drop, length-take-le}
use Rattle.std.proofs.lemmas.List.Elements.{All-head, All-tail}
use Rattle.std.proofs.lemmas.List.Folds.{list_all_at, list_all_more}
use Rattle.event_reader.specs.Limits.{greatest_number}
use Rattle.event_reader.specs.declared.ranges.Range.{Range}
use Rattle.event_reader.specs.declared.cause.Cause.TheVariants.{Range as OutOfRange}
use Rattle.event_reader.specs.Numbers.{is_number, value_of, cut_value, is_in, are_in, numbers_in, AreCutNumbers}
use Rattle.event_reader.specs.LineParts.{AreNumbersUpTo}
use Rattle.event_reader.proofs.Parts.{part_at}
use Rattle.event_reader.specs.Reader.{IsOfWords}

-- the numbers from a place on are in their ranges
pub are_in_at : (ranges : List Range) (numbers : List ℕ) (i : ℕ) (d : Range) → i < length ranges → i < length numbers
    → are_in (drop i ranges) (drop i numbers) ≡ (is_in (get_or ranges i d) (get_or numbers i 0) && are_in (drop (i + 1) ranges) (drop (i + 1) numbers))
unfolding are_in
are_in_at ranges numbers i d inside inside' = rw (drop_more ranges i d inside, drop_more numbers i 0 inside') refl

pub are_in_end : (ranges : List Range) (numbers : List ℕ) (i : ℕ) → length ranges ≤ i → length numbers ≤ i → are_in (drop i ranges) (drop i numbers) ≡ true
unfolding are_in
are_in_end ranges numbers i past past' = rw (drop_all i ranges past) refl

-- one word after the first that is no number
pub not_all_numbers : (words : List (List ℕ)) (i : ℕ) → i + 1 < length words → is_number (get_or words (i + 1) []) ≡ false
    → list_all is_number (drop 1 words) ≡ false
not_all_numbers words i inside none =
    let here : get_or (drop 1 words) i [] ≡ get_or words (i + 1) []
    = get_or-drop 1 words i [] ∙ (let same : 1 + i ≡ i + 1 = omega arith in ap (λ n. get_or words n []) same) in
    list_all_at is_number (drop 1 words) i [] (omega (arith, length-drop 1 words)) (ap is_number here ∙ none)

-- a part more
pub known_more : (parts others : List (List ℕ)) (i : ℕ) (numbers part : List ℕ) (number : ℕ) → i < length numbers → AreNumbersUpTo parts i numbers
    → drop i parts ≡ part ∷ others → is_number part ≡ true → number ≡ cut_value part → AreNumbersUpTo parts (i + 1) (set numbers i number)
known_more parts others i numbers part number room known here is says =
    let at = part_at parts others i part here in record {
      inside = omega (arith, at.0);
      all = list_all_more is_number parts i [] at.0 ∙ rw (known.all, at.1, is) refl;
      values = take_more_set numbers i number room
          ∙ rw (known.values, says) refl
          ∙ sym (map_more cut_value parts i [] at.0 ∙ ap (λ w. map cut_value (take i parts) ++ cut_value w ∷ []) at.1);
    }

-- what is known of a list that begins with the numbers is known of these
pub known_part : (parts : List (List ℕ)) (known : ℕ) (numbers : List ℕ) → AreNumbersUpTo parts known numbers
    → (length (take known numbers) ≡ known) × AreNumbersUpTo parts (length (take known numbers)) (take known numbers)
known_part parts known numbers is =
    let many : length (take known numbers) ≡ known
    = ap length is.values ∙ length-map (take known parts) cut_value ∙ length-take-le known parts is.inside in (
      many,
      subst (λ k. AreNumbersUpTo parts k (take known numbers)) (sym many) (
          record {
            inside = is.inside;
            all = is.all;
            values = take_all known (take known numbers) (omega (arith, many)) ∙ is.values;
          }
          ),
    )

-- all parts
pub known_all : (parts : List (List ℕ)) (known : ℕ) (numbers : List ℕ) → AreNumbersUpTo parts known numbers → length parts ≤ known
    → AreCutNumbers parts (take known numbers)
known_all parts known numbers is all = record {
  all = ap (list_all is_number) (sym (take_all known parts all)) ∙ is.all;
  values = is.values ∙ ap (map cut_value) (take_all known parts all);
}

-- cut numbers are in their ranges where the numbers are
cut_in : (range : Range) (n limit : ℕ) → range.greatest ≤ limit → is_in range (min n (limit + 1)) ≡ is_in range n
cut_in range n limit small = elim (cases_lt limit n) [
  | inl above ↦ let out : nat_le n range.greatest ≡ false = grind (arith, nat_tests) in
      let out' : nat_le (min n (limit + 1)) range.greatest ≡ false = grind (arith, nat_tests) in
      rw (out, out') (by_and (nat_le range.least (min n (limit + 1))) (nat_le range.least n))
  | inr below ↦ let same : min n (limit + 1) ≡ n = omega arith in ap (is_in range) same
]
  where
    by_and : (a b : Bool) → (a && false) ≡ (b && false)
    by_and true true = refl
    by_and true false = refl
    by_and false true = refl
    by_and false false = refl

pub all_cut_in : (ranges : List Range) (words : List (List ℕ)) → All (λ range. range.greatest ≤ greatest_number) ranges
    → are_in ranges (map cut_value words) ≡ are_in ranges (map value_of words)
unfolding are_in
all_cut_in [] words small = refl
all_cut_in (range ∷ ranges) [] small = refl
all_cut_in (range ∷ ranges) (word ∷ words) small =
    rw (
      cut_in range (value_of word) greatest_number (All-head (λ r. r.greatest ≤ greatest_number) range ranges small),
      all_cut_in ranges words (All-tail (λ r. r.greatest ≤ greatest_number) range ranges small),
    ) refl

-- and where they are in range, nothing was cut
and_parts : (a b c : Bool) → ((a && b) && c) ≡ true → (b ≡ true) × (c ≡ true)
and_parts true true true is = (refl, refl)
and_parts true true false is = absurd (cc)
and_parts true false c is = absurd (cc)
and_parts false b c is = absurd (cc)

pub nothing_cut : (ranges : List Range) (words : List (List ℕ)) → length ranges ≡ length words → All (λ range. range.greatest ≤ greatest_number) ranges
    → are_in ranges (map value_of words) ≡ true → map cut_value words ≡ map value_of words
unfolding are_in
nothing_cut [] [] same small fits = refl
nothing_cut [] (word ∷ words) same small fits = absurd (omega arith)
nothing_cut (range ∷ ranges) [] same small fits = absurd (omega arith)
nothing_cut (range ∷ ranges) (word ∷ words) same small fits =
    let parts = and_parts (nat_le range.least (value_of word)) (nat_le (value_of word) range.greatest) (are_in ranges (map value_of words)) fits in
    let below : value_of word ≤ range.greatest = grind (arith, nat_tests, parts.0) in
    let whole : cut_value word ≡ value_of word = omega (arith, below, All-head (λ r. r.greatest ≤ greatest_number) range ranges small) in
    rw (whole, nothing_cut ranges words (omega arith) (All-tail (λ r. r.greatest ≤ greatest_number) range ranges small) parts.1) refl

-- the whole answer
pub numbers_are : (ranges : List Range) (words : List (List ℕ)) (numbers : List ℕ) → length ranges ≡ length words → All (λ range. range.greatest ≤ greatest_number) ranges
    → AreCutNumbers words numbers → are_in ranges numbers ≡ true → numbers_in ranges words ≡ Ok numbers
numbers_are ranges words numbers same small cut fits =
    let values : are_in ranges (map value_of words) ≡ true = sym (all_cut_in ranges words small) ∙ ap (are_in ranges) (sym cut.values) ∙ fits in
    rw (cut.all, values) (ap Ok (sym (cut.values ∙ nothing_cut ranges words same small values)))

pub numbers_out : (ranges : List Range) (words : List (List ℕ)) (numbers : List ℕ) → All (λ range. range.greatest ≤ greatest_number) ranges
    → AreCutNumbers words numbers → are_in ranges numbers ≡ false → numbers_in ranges words ≡ Err OutOfRange
numbers_out ranges words numbers small cut out =
    let values : are_in ranges (map value_of words) ≡ false = sym (all_cut_in ranges words small) ∙ ap (are_in ranges) (sym cut.values) ∙ out in
    rw (cut.all, values) refl

-- each number is in the range of its place
and_true : (a b : Bool) → (a && b) ≡ true → (a ≡ true) × (b ≡ true)
and_true true b is = (refl, is)
and_true false b is = absurd (cc)

pub in_at : (ranges : List Range) (numbers : List ℕ) (i : ℕ) (d : Range) → are_in ranges numbers ≡ true → i < length ranges → i < length numbers
    → is_in (get_or ranges i d) (get_or numbers i 0) ≡ true
unfolding are_in
in_at [] numbers i d fits inside inside' = absurd (omega arith)
in_at (range ∷ ranges) [] i d fits inside inside' = absurd (omega arith)
in_at (range ∷ ranges) (n ∷ numbers) zero d fits inside inside' = (and_true (is_in range n) (are_in ranges numbers) fits).0
in_at (range ∷ ranges) (n ∷ numbers) (suc i) d fits inside inside' =
    in_at ranges numbers i d (and_true (is_in range n) (are_in ranges numbers) fits).1 (omega arith) (omega arith)

-- a number is in the range of its place
pub in_place : (ranges : List Range) (numbers : List ℕ) (i : ℕ) (range : Range) → are_in ranges numbers ≡ true → i < length ranges → i < length numbers
    → get_or ranges i range ≡ range → (range.least ≤ get_or numbers i 0) × (get_or numbers i 0 ≤ range.greatest)
in_place ranges numbers i range fits inside inside' is =
    let here : is_in range (get_or numbers i 0) ≡ true = ap (λ r. is_in r (get_or numbers i 0)) (sym is) ∙ in_at ranges numbers i range fits inside inside' in
    let parts = and_true (nat_le range.least (get_or numbers i 0)) (nat_le (get_or numbers i 0) range.greatest) here in
    (grind (arith, nat_tests, parts.0), grind (arith, nat_tests, parts.1))

abbrev read : List ℕ → Result (List ℕ) Cause
read numbers = Ok numbers

-- the numbers that are read are as many as their words, and in range
pub numbers_are_in : (ranges : List Range) (words : List (List ℕ)) (numbers : List ℕ) → numbers_in ranges words ≡ Ok numbers
    → (length numbers ≡ length words) × (are_in ranges numbers ≡ true)
numbers_are_in ranges words numbers is = by_tests (list_all is_number words) (are_in ranges (map value_of words)) refl is
  where
    by_tests : (all fits : Bool) → are_in ranges (map value_of words) ≡ fits
        → (if all then (if fits then read (map value_of words) else Err OutOfRange) else Err Form) ≡ read numbers
        → (length numbers ≡ length words) × (are_in ranges numbers ≡ true)
    by_tests false fits e is = absurd (cc)
    by_tests true false e is = absurd (cc)
    by_tests true true e is =
        let same : map value_of words ≡ numbers = cc in
        (rw (← same) (length-map words value_of), rw (← same) e)

-- words that are not read are refused as form or range
pub numbers_causes : (ranges : List Range) (words : List (List ℕ)) (cause : Cause) → numbers_in ranges words ≡ Err cause → IsOfWords cause
numbers_causes ranges words cause is = by_tests (list_all is_number words) (are_in ranges (map value_of words)) is
  where
    by_tests : (all fits : Bool) → (if all then (if fits then read (map value_of words) else Err OutOfRange) else Err Form) ≡ Err cause → IsOfWords cause
    by_tests false fits is = let same : Form ≡ cause = cc in subst IsOfWords same tt
    by_tests true false is = let same : OutOfRange ≡ cause = cc in subst IsOfWords same tt
    by_tests true true is = absurd (cc)

-- a number between the ends of a range is in it
pub in_range : (range : Range) (n : ℕ) → range.least ≤ n → n ≤ range.greatest → is_in range n ≡ true
in_range range n low high = grind (arith, nat_tests)
