-- The parts of a line, taken one by one.
use Rattle.std.proofs.Common.{◌≡◌, ℕ, ◌+◌, ◌-◌, ◌<◌, ◌≤◌, Bool, true, false, nat_le, ◌&&◌, if◌then◌else◌, List, [], ◌∷◌, length, take, drop, get_or, refl, sym, ◌∙◌, ap, arith, Option, Some, None, inl, inr, add-zero}
use Rattle.std.specs.List.{list_all}
use Rattle.std.proofs.lemmas.Bool.{and_parts, cases_lt}
use Rattle.std.proofs.lemmas.Bool.Decides.{nat_tests}
use Rattle.std.proofs.lemmas.List.{drop_more, drop_all, get_or-drop, drop-drop, length-drop, take_all, take-append-drop}
use Rattle.std.proofs.lemmas.List.Folds.{list_all_at, list_all_more, list_all-append}
use Rattle.event_reader.specs.Limits.{line_words}
use Rattle.event_reader.specs.LineParts.{counted, AreNumbersUpTo}
use Rattle.event_reader.specs.Numbers.{is_number}
use Rattle.event_reader.specs.Words.{parts_of, is_word, words_of}

-- the part at a place, and those behind it
pub part_at : (parts next : List (List ℕ)) (i : ℕ) (part : List ℕ) → drop i parts ≡ part ∷ next
    → (i < length parts) × (get_or parts i [] ≡ part) × (drop (i + 1) parts ≡ next)
part_at parts next i part is = elim (cases_lt i (length parts)) [
  | inl inside ↦ let both : get_or parts i [] ∷ drop (i + 1) parts ≡ part ∷ next = sym (drop_more parts i [] inside) ∙ is in (inside, cc, cc)
  | inr past ↦ absurd (let none : [] ≡ part ∷ next = sym (drop_all i parts past) ∙ is in cc)
]

-- the first part of a rest
pub first_here : (parts : List (List ℕ)) (rest : List ℕ) (i : ℕ) → parts_of rest ≡ drop i parts → get_or (parts_of rest) 0 [] ≡ get_or parts i []
first_here parts rest i is =
    ap (λ ps. get_or ps 0 []) is ∙ get_or-drop i parts 0 [] ∙ ap (λ n. get_or parts n []) (add-zero i)

-- the parts behind one part more
pub parts_behind : (parts : List (List ℕ)) (rest more : List ℕ) (i : ℕ) → parts_of rest ≡ drop i parts → i + 1 < length parts
    → (1 < length (parts_of rest) → parts_of more ≡ drop 1 (parts_of rest)) → parts_of more ≡ drop (i + 1) parts
parts_behind parts rest more i is inside behind =
    let many : 1 < length (parts_of rest) = rw is (omega (arith, length-drop i parts)) in
    behind many ∙ ap (drop 1) is ∙ drop-drop 1 i parts

-- parts that are words, and few enough, are counted
pub counted_all : (parts : List (List ℕ)) (i most : ℕ) → i ≤ length parts → [] ≡ drop i parts → list_all is_word (take i parts) ≡ true → i ≤ most
    → counted most parts ≡ Some i
counted_all parts i most inside none all few =
    let many : length parts ≡ i = (let left : 0 ≡ length (drop i parts) = ap (λ (ps : List (List ℕ)). length ps) none in omega (arith, length-drop i parts)) in
    let whole : list_all is_word parts ≡ true = ap (list_all is_word) (sym (take_all i parts (omega arith))) ∙ all in
    let passes : nat_le (length parts) most ≡ true = grind (arith, nat_tests) in
    rw (whole, passes) (ap Some many)

-- a word more
pub words_more : (parts others : List (List ℕ)) (i : ℕ) (part : List ℕ) → drop i parts ≡ part ∷ others → list_all is_word (take i parts) ≡ true
    → is_word part ≡ true → list_all is_word (take (i + 1) parts) ≡ true
words_more parts others i part here all one =
    let at = part_at parts others i part here in
    list_all_more is_word parts i [] at.0 ∙ rw (all, at.1, one) refl

-- a part that is no word
pub no_word : (parts others : List (List ℕ)) (i most : ℕ) (part : List ℕ) → drop i parts ≡ part ∷ others → is_word part ≡ false
    → counted most parts ≡ None
no_word parts others i most part here none =
    let at = part_at parts others i part here in
    rw (list_all_at is_word parts i [] at.0 (ap is_word at.1 ∙ none)) refl

-- more parts than that are too many
pub too_many : (parts : List (List ℕ)) (i most : ℕ) → most < i → i ≤ length parts → counted most parts ≡ None
too_many parts i most more inside =
    let fails : nat_le (length parts) most ≡ false = grind (arith, nat_tests) in
    by_words (list_all is_word parts) fails
  where
    by_words : (all : Bool) → nat_le (length parts) most ≡ false → (if all && nat_le (length parts) most then Some (length parts) else None) ≡ None
    by_words true fails = rw fails refl
    by_words false fails = refl

-- a word, some numbers, and others make up the words of a line
abbrev no_count : Option ℕ
no_count = None

numbers_are_words : (words : List (List ℕ)) → list_all is_number words ≡ true → list_all is_word words ≡ true
numbers_are_words [] all = refl
numbers_are_words (word ∷ words) all =
    let parts = and_parts (is_number word) (list_all is_number words) all in
    let one : is_word word ≡ true = (and_parts _ _ (and_parts _ _ parts.0).0).0 in
    rw (one, numbers_are_words words parts.1) refl

module _ (line first : List ℕ) (parts : List (List ℕ)) (known : ℕ) (numbers : List ℕ) (is : parts_of line ≡ first ∷ parts) (word : is_word first ≡ true)
    (are : AreNumbersUpTo parts known numbers) (few : known < line_words) where
  all_words : (rest : Bool) → list_all is_word (drop known parts) ≡ rest → list_all is_word (parts_of line) ≡ rest
  all_words rest others =
      rw (is, word)
      (ap (list_all is_word) (sym (take-append-drop known parts)) ∙ list_all-append is_word (take known parts) (drop known parts)
      ∙ rw (numbers_are_words (take known parts) are.all, others) refl)

  pub many : length (parts_of line) ≡ 1 + known + length (drop known parts)
  many = rw is (let inside = are.inside in omega (arith, inside, length-drop known parts))

  pub some_counted : (n : ℕ) → Some n ≡ counted (line_words - 1 - known) (drop known parts)
      → (words_of line ≡ Some (parts_of line)) × (n ≡ length (drop known parts)) × (1 + known + n ≤ line_words)
  some_counted n is = by_tests (list_all is_word (drop known parts)) (nat_le (length (drop known parts)) (line_words - 1 - known)) refl refl is
    where
      by_tests : (all fits : Bool) → list_all is_word (drop known parts) ≡ all → nat_le (length (drop known parts)) (line_words - 1 - known) ≡ fits
          → Some n ≡ (if all && fits then Some (length (drop known parts)) else None)
          → (words_of line ≡ Some (parts_of line)) × (n ≡ length (drop known parts)) × (1 + known + n ≤ line_words)
      by_tests true true all fits is =
          let count : n ≡ length (drop known parts) = cc in
          let below : length (drop known parts) ≤ line_words - 1 - known = grind (arith, nat_tests) in
          let passes : nat_le (length (parts_of line)) line_words ≡ true = (let sum = many in grind (arith, nat_tests)) in
          (rw (all_words true all, passes) refl, count, omega (arith, few))
      by_tests true false all fits is = absurd (cc)
      by_tests false fits all e is = absurd (cc)

  pub none_counted : None ≡ counted (line_words - 1 - known) (drop known parts) → words_of line ≡ None
  none_counted is = by_tests (list_all is_word (drop known parts)) (nat_le (length (drop known parts)) (line_words - 1 - known)) refl refl is
    where
      by_tests : (all fits : Bool) → list_all is_word (drop known parts) ≡ all → nat_le (length (drop known parts)) (line_words - 1 - known) ≡ fits
          → no_count ≡ (if all && fits then Some (length (drop known parts)) else None) → words_of line ≡ None
      by_tests true true all fits is = absurd (cc)
      by_tests true false all fits is =
          let above : line_words - 1 - known < length (drop known parts) = grind (arith, nat_tests) in
          let fails : nat_le (length (parts_of line)) line_words ≡ false = (let sum = many in grind (arith, nat_tests)) in
          rw (all_words true all, fails) refl
      by_tests false fits all e is = rw (all_words false all) refl

-- the part behind those that are known is the first of the others
pub next_part : (line first : List ℕ) (parts : List (List ℕ)) (known : ℕ) → parts_of line ≡ first ∷ parts
    → (others : List (List ℕ)) → others ≡ drop known parts → is_number (get_or others 0 []) ≡ false → is_number (get_or (parts_of line) (known + 1) []) ≡ false
next_part line first parts known is others others_are none =
    let here : get_or parts known [] ≡ get_or (first ∷ parts) (known + 1) []
    = get_or-drop 1 (first ∷ parts) known [] ∙ (let same : 1 + known ≡ known + 1 = omega arith in ap (λ n. get_or (first ∷ parts) n []) same) in
    let first_of : get_or others 0 [] ≡ get_or parts known []
    = ap (λ ps. get_or ps 0 []) others_are ∙ get_or-drop known parts 0 [] ∙ ap (λ n. get_or parts n []) (add-zero known) in
    ap is_number (ap (λ ps. get_or ps (known + 1) []) is ∙ sym here ∙ sym first_of) ∙ none
