use Rattle.std.proofs.Common.{◌≡◌, ℕ, List, [], ◌∷◌, length, drop, sym, ◌∙◌, ap, arith, refl, Some, None}
use Rattle.std.specs.Prelude.{slice_index_or}
use Rattle.run_checker.specs.Lines.{greatest_id, greatest_small, greatest_value}
use Rattle.run_checker.specs.LineEvents.{number_up_to, both, fetch_said}
use Rattle.run_checker.proofs.words.fetched.Goals as goal

-- four words behind the letter
four : (words : List (List ℕ)) → length words ≡ 5
    → fetch_said (drop 1 words) ≡ both (both (number_up_to greatest_id (slice_index_or words 1 [])) (number_up_to greatest_small (slice_index_or words 2 [])))
    (both (number_up_to greatest_small (slice_index_or words 3 [])) (number_up_to greatest_value (slice_index_or words 4 [])))
four [] five = absurd (omega (arith, five))
four (a ∷ []) five = absurd (omega (arith, five))
four (a ∷ b ∷ []) five = absurd (omega (arith, five))
four (a ∷ b ∷ c ∷ []) five = absurd (omega (arith, five))
four (a ∷ b ∷ c ∷ d ∷ []) five = absurd (omega (arith, five))
four (a ∷ b ∷ c ∷ d ∷ e ∷ []) five = refl
four (a ∷ b ∷ c ∷ d ∷ e ∷ f ∷ words) five = absurd (omega (arith, five))

module _ (words : List (List ℕ)) (five : length words ≡ 5) (o j t : ℕ) (op : number_up_to greatest_id (slice_index_or words 1 []) ≡ Some o)
    (place : number_up_to greatest_small (slice_index_or words 2 []) ≡ Some j) (by : number_up_to greatest_small (slice_index_or words 3 []) ≡ Some t) where
  all : (x : ℕ) → number_up_to greatest_value (slice_index_or words 4 []) ≡ Some x → Some ((o, j), (t, x)) ≡ fetch_said (drop 1 words)
  all x value = sym (four words five ∙ rw (op, place, by, value) refl)

  none : number_up_to greatest_value (slice_index_or words 4 []) ≡ None → fetch_said (drop 1 words) ≡ None
  none value = four words five ∙ rw (op, place, by, value) refl

pub returns-in_err-value : goal.returns-in_err-value
returns-in_err-value c =
    c.from_residual-in_err-value.ensures
    ∙ sym (none c.args.words.now (sym c.count.ensures.count ∙ c.if-count-ne5.false) c.in_ok-op.op c.in_ok-j.j c.in_ok-by.by
    (sym (c.id.ensures ∙ ap (number_up_to greatest_id) c.word.ensures) ∙ c.in_ok-op.was)
    (sym (c.small.ensures ∙ ap (number_up_to greatest_small) c.word-2.ensures) ∙ c.in_ok-j.was)
    (sym (c.small-2.ensures ∙ ap (number_up_to greatest_small) c.word-3.ensures) ∙ c.in_ok-by.was)
    (sym (c.number_up_to.ensures ∙ ap (number_up_to greatest_value) c.word-4.ensures) ∙ c.in_err-value.was))

pub returns : goal.returns
returns c =
    all c.args.words.now (sym c.count.ensures.count ∙ c.if-count-ne5.false) c.in_ok-op.op c.in_ok-j.j c.in_ok-by.by
    (sym (c.id.ensures ∙ ap (number_up_to greatest_id) c.word.ensures) ∙ c.in_ok-op.was)
    (sym (c.small.ensures ∙ ap (number_up_to greatest_small) c.word-2.ensures) ∙ c.in_ok-j.was)
    (sym (c.small-2.ensures ∙ ap (number_up_to greatest_small) c.word-3.ensures) ∙ c.in_ok-by.was)
    c.in_ok-value.value (sym (c.number_up_to.ensures ∙ ap (number_up_to greatest_value) c.word-4.ensures) ∙ c.in_ok-value.was)
