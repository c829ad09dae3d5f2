-- Lines of a letter and numbers, as they are put into a buffer.
use Rattle.std.proofs.Common.{◌≡◌, ℕ, ◌*◌, ◌^◌, ◌<◌, ◌≤◌, Bool, List, [], ◌∷◌, ◌++◌, length, map, ◌∙◌, ap, arith, append-nil, length-append}
use Rattle.std.specs.Prelude.{decimal}
use Rattle.std.specs.List.{All, join_with_byte}
use Rattle.std.proofs.lemmas.Fmt.{length-decimal-le}
use Rattle.std.proofs.lemmas.List.Elements.{All-nil, All-cons, All-head, All-tail}
use Rattle.interleaving_core.specs.declared.event.CoreEvent.TheVariants.{Decide}
use Rattle.event_reader.specs.PlainLines.{spaced, plain_line}
use Rattle.run_checker.specs.Lines.{decision_letter, line_of}

joined : (word : List ℕ) (ns : List ℕ) → word ++ spaced ns ≡ join_with_byte 32 (word ∷ map decimal ns)
unfolding spaced
joined word [] = append-nil word
joined word (n ∷ ns) = ap (λ rest. word ++ 32 ∷ rest) (joined (decimal n) ns)

-- words with one space between each two
plain_joined : (letter : ℕ) (ns : List ℕ) → plain_line letter ns ≡ join_with_byte 32 ((letter ∷ []) ∷ map decimal ns)
plain_joined letter ns = joined (letter ∷ []) ns

pub one_written : (letter x a : ℕ) (line : List ℕ) → line ≡ plain_line letter (x ∷ []) → x ≡ a → line ≡ join_with_byte 32 ((letter ∷ []) ∷ decimal a ∷ [])
one_written letter x a line is same = is ∙ plain_joined letter (x ∷ []) ∙ ap (λ n. join_with_byte 32 ((letter ∷ []) ∷ decimal n ∷ [])) same

pub two_written : (letter x y a b : ℕ) (line : List ℕ) → line ≡ plain_line letter (x ∷ y ∷ []) → x ≡ a → y ≡ b
    → line ≡ join_with_byte 32 ((letter ∷ []) ∷ decimal a ∷ decimal b ∷ [])
two_written letter x y a b line is one other =
    is ∙ plain_joined letter (x ∷ y ∷ []) ∙ ap (λ n. join_with_byte 32 ((letter ∷ []) ∷ decimal n ∷ decimal y ∷ [])) one
    ∙ ap (λ n. join_with_byte 32 ((letter ∷ []) ∷ decimal a ∷ decimal n ∷ [])) other

pub four_written : (letter x y z v a b d e : ℕ) (line : List ℕ) → line ≡ plain_line letter (x ∷ y ∷ z ∷ v ∷ []) → x ≡ a → y ≡ b → z ≡ d → v ≡ e
    → line ≡ join_with_byte 32 ((letter ∷ []) ∷ decimal a ∷ decimal b ∷ decimal d ∷ decimal e ∷ [])
four_written letter x y z v a b d e line is one two three four =
    is ∙ plain_joined letter (x ∷ y ∷ z ∷ v ∷ []) ∙ ap (λ n. join_with_byte 32 ((letter ∷ []) ∷ decimal n ∷ decimal y ∷ decimal z ∷ decimal v ∷ [])) one
    ∙ ap (λ n. join_with_byte 32 ((letter ∷ []) ∷ decimal a ∷ decimal n ∷ decimal z ∷ decimal v ∷ [])) two
    ∙ ap (λ n. join_with_byte 32 ((letter ∷ []) ∷ decimal a ∷ decimal b ∷ decimal n ∷ decimal v ∷ [])) three
    ∙ ap (λ n. join_with_byte 32 ((letter ∷ []) ∷ decimal a ∷ decimal b ∷ decimal d ∷ decimal n ∷ [])) four

-- a decision, with its letter behind the number
decide_joined : (i : ℕ) (committed : Bool) → plain_line 68 (i ∷ []) ++ 32 ∷ decision_letter committed ∷ [] ≡ line_of (Decide i committed)
unfolding spaced
decide_joined i committed = ap (λ digits. 68 ∷ 32 ∷ (digits ++ 32 ∷ decision_letter committed ∷ [])) (append-nil (decimal i))

pub decide_written : (x i : ℕ) (committed : Bool) (line longer word : List ℕ) → line ≡ plain_line 68 (x ∷ []) → x ≡ i → longer ≡ line ++ word
    → word ≡ 32 ∷ decision_letter committed ∷ [] → longer ≡ line_of (Decide i committed)
decide_written x i committed line longer word is same more word_is =
    more ∙ ap (λ back. line ++ back) word_is ∙ ap (λ front. front ++ 32 ∷ decision_letter committed ∷ []) (is ∙ ap (λ n. plain_line 68 (n ∷ [])) same)
    ∙ decide_joined i committed

-- the line of few numbers is short
spaced_short : (ns : List ℕ) → All (λ n. n < 2 ^ 64) ns → length (spaced ns) ≤ 21 * length ns
unfolding spaced
spaced_short [] all = omega arith
spaced_short (n ∷ ns) all =
    let fits = All-head (λ m. m < 2 ^ 64) n ns all in
    let digits = length-decimal-le 20 n (omega arith) (omega arith) fits in
    omega (arith, length-append (decimal n) (spaced ns), digits, spaced_short ns (All-tail (λ m. m < 2 ^ 64) n ns all))

one_fits : (x : ℕ) → x < 2 ^ 64 → All (λ n. n < 2 ^ 64) (x ∷ [])
one_fits x fits = All-cons (λ n. n < 2 ^ 64) x [] fits (All-nil (λ n. n < 2 ^ 64))

pub one_short : (letter x : ℕ) (line : List ℕ) → line ≡ plain_line letter (x ∷ []) → x < 2 ^ 64 → length line ≤ 22
one_short letter x line is fits = omega (arith, ap length is, spaced_short (x ∷ []) (one_fits x fits))

pub two_short : (letter x y : ℕ) (line : List ℕ) → line ≡ plain_line letter (x ∷ y ∷ []) → x < 2 ^ 64 → y < 2 ^ 64 → length line ≤ 85
two_short letter x y line is one other =
    omega (arith, ap length is, spaced_short (x ∷ y ∷ []) (All-cons (λ n. n < 2 ^ 64) x (y ∷ []) one (one_fits y other)))

pub four_short : (letter x y z v : ℕ) (line : List ℕ) → line ≡ plain_line letter (x ∷ y ∷ z ∷ v ∷ []) → x < 2 ^ 64 → y < 2 ^ 64 → z < 2 ^ 64 → v < 2 ^ 64
    → length line ≤ 85
four_short letter x y z v line is one two three four =
    omega (
      arith,
      ap length is,
      spaced_short (x ∷ y ∷ z ∷ v ∷ []) (All-cons (λ n. n < 2 ^ 64) x (y ∷ z ∷ v ∷ []) one
          (All-cons (λ n. n < 2 ^ 64) y (z ∷ v ∷ []) two (All-cons (λ n. n < 2 ^ 64) z (v ∷ []) three (one_fits v four)))),
    )
