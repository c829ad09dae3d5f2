-- The guess of each operation is the one assignment of guesses.
use Rattle.std.proofs.Common.{◌≡◌, ℕ, zero, suc, ◌<◌, ◌≤◌, [], ◌∷◌, length, slice_index, Option, Some, None, unwrap_or, not-suc-le-zero, zero-lt-suc, le_refl, refl, sym, ap, ◌∙◌, subst, inl, inr, arith}
use Rattle.std.proofs.Math.Path.{ap₂}
use Rattle.std.proofs.lemmas.List.{length_push, get_or_push, get_or_append_left}
use Rattle.std.proofs.lemmas.Bool.{cases_eq}
use Rattle.morph_base.specs.declared.plan.Plan.{Plan}
use Rattle.morph_base.specs.Plans.{IsPlan, high_of, op_count}
use Rattle.morph_base.specs.Clean.{source, outcome}
use Rattle.morph_base.specs.Guesses.{IsGuess, guesses, guess}
use Rattle.morph_base.proofs.OutcomeLaws.{Precedes, outcome-same, source-same}
use Rattle.morph_base.proofs.BoundLaws.{source-within, outcome-within}

-- what an operation is guessed to be, by an assignment
abbrev pub guess_from : Plan → (ℕ → ℕ) → ℕ → ℕ
guess_from p g o = unwrap_or (outcome p g o) (source p g o 0)

-- it rests on what precedes the operation
pub guess_from-same : (p : Plan) (g h : ℕ → ℕ) (o : ℕ) → IsPlan p → o < op_count p → ((t : ℕ) → Precedes p t o → g t ≡ h t) → guess_from p g o ≡ guess_from p h o
guess_from-same p g h o valid lt agree =
    ap₂ unwrap_or (outcome-same p g h o (λ j below. source-same p g h o j valid lt below agree)) (source-same p g h o 0 valid lt (zero-lt-suc _) agree)

-- ---- the list of guesses

length-guesses : (p : Plan) (n : ℕ) → length (guesses p n) ≡ n
unfolding guesses
length-guesses p zero = refl
length-guesses p (suc n) =
    length_push (guesses p n) (guess_from p (slice_index (guesses p n)) n) ∙ (let before : length (guesses p n) ≡ n = length-guesses p n in omega arith)

guesses-newest : (p : Plan) (n : ℕ) → slice_index (guesses p (suc n)) n ≡ guess_from p (slice_index (guesses p n)) n
unfolding guesses
guesses-newest p n = get_or_push (guesses p n) (guess_from p (slice_index (guesses p n)) n) 0 n (length-guesses p n)

guesses-kept : (p : Plan) (n o : ℕ) → o < n → slice_index (guesses p (suc n)) o ≡ slice_index (guesses p n) o
unfolding guesses
guesses-kept p n o lt =
    let inside : o < length (guesses p n) = (let all : length (guesses p n) ≡ n = length-guesses p n in omega arith) in
    get_or_append_left (guesses p n) (guess_from p (slice_index (guesses p n)) n ∷ []) 0 o inside

-- a guess that was made stays
guesses-stay : (p : Plan) (n o : ℕ) → o < n → slice_index (guesses p n) o ≡ slice_index (guesses p (suc o)) o
guesses-stay p zero o lt = absurd (not-suc-le-zero lt)
guesses-stay p (suc n) o lt =
    elim (cases_eq o n) [
      | inl same ↦ ap (λ m. slice_index (guesses p (suc m)) o) (sym same)
      | inr other ↦ let less : o < n = omega arith in guesses-kept p n o less ∙ guesses-stay p n o less
    ]

-- ---- it is an assignment of guesses

guess-front : (p : Plan) (n o : ℕ) → o < n → n ≤ op_count p → slice_index (guesses p n) o ≡ guess p o
unfolding guess
guess-front p n o lt few =
    let less : o < op_count p = omega arith in
    guesses-stay p n o lt ∙ sym (guesses-stay p (op_count p) o less)

guess-made : (p : Plan) (o : ℕ) → o < op_count p → guess p o ≡ guess_from p (slice_index (guesses p o)) o
guess-made p o lt = sym (guess-front p (suc o) o (le_refl (suc o)) lt) ∙ guesses-newest p o

pub guess_is_guess : (p : Plan) → IsPlan p → IsGuess p (guess p)
guess_is_guess p valid = record {
  at = λ o lt.
      guess-made p o lt
      ∙ guess_from-same p (slice_index (guesses p o)) (guess p) o valid lt
      (λ t precedes. guess-front p o t precedes.number_before (let few = lt in omega arith));
}

-- ---- there is one alone

guess_agree : (p : Plan) (g h : ℕ → ℕ) → IsPlan p → IsGuess p g → IsGuess p h → (n o : ℕ) → o < n → o < op_count p → g o ≡ h o
guess_agree p g h valid left right zero o lt in_range = absurd (not-suc-le-zero lt)
guess_agree p g h valid left right (suc n) o lt in_range =
    left.at o in_range
    ∙ guess_from-same p g h o valid in_range
    (λ t precedes. guess_agree p g h valid left right n t (let before = precedes.number_before in omega arith) precedes.in_range)
    ∙ sym (right.at o in_range)

pub guess_alone : (p : Plan) (g : ℕ → ℕ) (o : ℕ) → IsPlan p → IsGuess p g → o < op_count p → g o ≡ guess p o
guess_alone p g o valid is lt = guess_agree p g (guess p) valid is (guess_is_guess p valid) (suc o) o (le_refl (suc o)) lt

-- ---- a guess is a value

guess-small_below : (p : Plan) (g : ℕ → ℕ) → IsPlan p → IsGuess p g → (n o : ℕ) → o < n → o < op_count p → g o ≤ high_of p
guess-small_below p g valid is zero o lt in_range = absurd (not-suc-le-zero lt)
guess-small_below p g valid is (suc n) o lt in_range =
    made (λ t precedes. guess-small_below p g valid is n t (let before = precedes.number_before in omega arith) precedes.in_range)
  where
    either : ((t : ℕ) → Precedes p t o → g t ≤ high_of p) → (found : Option ℕ) → outcome p g o ≡ found → unwrap_or found (source p g o 0) ≤ high_of p
    either before None found = source-within p valid (high_of p) (le_refl (high_of p)) g o 0 in_range (zero-lt-suc _) before
    either before (Some x) found = outcome-within p valid (high_of p) (le_refl (high_of p)) g o x in_range before found

    made : ((t : ℕ) → Precedes p t o → g t ≤ high_of p) → g o ≤ high_of p
    made before = subst (λ x. x ≤ high_of p) (sym (is.at o in_range)) (either before (outcome p g o) refl)

pub guess-small : (p : Plan) (g : ℕ → ℕ) (o : ℕ) → IsPlan p → IsGuess p g → o < op_count p → g o ≤ high_of p
guess-small p g o valid is lt = guess-small_below p g valid is (suc o) o (le_refl (suc o)) lt
