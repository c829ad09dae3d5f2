-- What one transaction does to a state at a key, and the fold of transactions joined end to end.
use Rattle.std.proofs.Common.{◌≡◌, ℕ, zero, suc, ◌<◌, true, false, List, [], ◌∷◌, ◌++◌, length, get_or, is_some, unwrap_or, suc-le-suc, not-suc-le-zero, le_of_suc-le-suc, zero-lt-suc, refl, sym, ◌∙◌, inl, inr}
use Rattle.std.proofs.lemmas.Bool.{and_parts, and_from, and_cases, cond-true, cond-false, cases_Bool, false≢true}
use Rattle.morph_base.specs.declared.key.Key.{Key}
use Rattle.morph_base.specs.declared.operation.Op.{Op}
use Rattle.morph_base.specs.Operations.{same_key}
use Rattle.morph_base.specs.Transactions.{Transaction}
use Rattle.morph_base.specs.States.{State, answer, all_answer, with_answers, commits, after, after_all}
use Rattle.morph_base.proofs.KeyLaws.{same_key-from, same_key-different}

-- no operation changes the key
abbrev pub ChangesNone : List Op → Key → Type 0
ChangesNone ops key = (j : ℕ) (d : Op) → j < length ops → (get_or ops j d).key ≡ key → ⊥

-- where nothing changes the key it keeps its value
pub with_answers-none : (s : State) (ops : List Op) (key : Key) → ChangesNone ops key → with_answers s ops key ≡ s key
unfolding with_answers
with_answers-none s [] key none = refl
with_answers-none s (op ∷ ops) key none =
    cond-false (same_key op.key key) _ _ (same_key-different op.key key (none 0 op (zero-lt-suc (length ops))))
    ∙ with_answers-none s ops key (λ j d lt. none (suc j) d (suc-le-suc lt))

-- the first operation that changes the key decides
pub with_answers-first : (s : State) (ops : List Op) (key : Key) (j : ℕ) (d : Op) → j < length ops → (get_or ops j d).key ≡ key
    → ((i : ℕ) → i < j → (get_or ops i d).key ≡ key → ⊥) → with_answers s ops key ≡ unwrap_or (answer s (get_or ops j d)) (s key)
unfolding with_answers
with_answers-first s [] key j d lt same before = absurd (not-suc-le-zero lt)
with_answers-first s (op ∷ ops) key zero d lt same before = cond-true (same_key op.key key) _ _ (same_key-from op.key key same)
with_answers-first s (op ∷ ops) key (suc j) d lt same before =
    cond-false (same_key op.key key) _ _ (same_key-different op.key key (before 0 (zero-lt-suc j)))
    ∙ with_answers-first s ops key j d (le_of_suc-le-suc lt) same (λ i below. before (suc i) (suc-le-suc below))

-- after a transaction: as if it committed, or as before
pub after-committed : (s : State) (e : Transaction) (key : Key) → commits s e ≡ true → after s e key ≡ with_answers s e.ops key
unfolding after
after-committed s e key c = cond-true (commits s e) _ _ c

pub after-aborted : (s : State) (e : Transaction) (key : Key) → commits s e ≡ false → after s e key ≡ s key
unfolding after
after-aborted s e key c = cond-false (commits s e) _ _ c

pub after-none : (s : State) (e : Transaction) (key : Key) → ChangesNone e.ops key → after s e key ≡ s key
after-none s e key none =
    elim (cases_Bool (commits s e)) [
      | inl c ↦ after-committed s e key c ∙ with_answers-none s e.ops key none
      | inr c ↦ after-aborted s e key c
    ]

-- all operations have an answer, or one has none
pub all_answer-each : (s : State) (ops : List Op) → all_answer s ops ≡ true → (j : ℕ) (d : Op) → j < length ops → is_some (answer s (get_or ops j d)) ≡ true
unfolding all_answer
all_answer-each s [] all j d lt = absurd (not-suc-le-zero lt)
all_answer-each s (op ∷ ops) all zero d lt = (and_parts (is_some (answer s op)) (all_answer s ops) all).0
all_answer-each s (op ∷ ops) all (suc j) d lt =
    all_answer-each s ops (and_parts (is_some (answer s op)) (all_answer s ops) all).1 j d (le_of_suc-le-suc lt)

pub all_answer-fails : (s : State) (ops : List Op) (d : Op) → all_answer s ops ≡ false → (j : ℕ) × (j < length ops) × (is_some (answer s (get_or ops j d)) ≡ false)
unfolding all_answer
all_answer-fails s [] d none = absurd (false≢true (sym none))
all_answer-fails s (op ∷ ops) d none =
    elim (and_cases (is_some (answer s op)) (all_answer s ops) none) [
      | inl here ↦ (0, zero-lt-suc (length ops), here)
      | inr there ↦ let found = all_answer-fails s ops d there in (suc found.0, suc-le-suc found.1, found.2)
    ]

pub all_answer-from : (s : State) (ops : List Op) (d : Op) → ((j : ℕ) → j < length ops → is_some (answer s (get_or ops j d)) ≡ true) → all_answer s ops ≡ true
unfolding all_answer
all_answer-from s [] d each = refl
all_answer-from s (op ∷ ops) d each =
    and_from (is_some (answer s op)) (all_answer s ops) (each 0 (zero-lt-suc (length ops))) (all_answer-from s ops d (λ j lt. each (suc j) (suc-le-suc lt)))

-- the fold of one list after another
pub after_all-append : (s : State) (es fs : List Transaction) → after_all s (es ++ fs) ≡ after_all (after_all s es) fs
unfolding after_all
after_all-append s [] fs = refl
after_all-append s (e ∷ es) fs = after_all-append (after s e) es fs

pub after_all-nil : (s : State) → after_all s [] ≡ s
unfolding after_all
after_all-nil s = refl

pub after_all-push : (s : State) (es : List Transaction) (e : Transaction) → after_all s (es ++ e ∷ []) ≡ after (after_all s es) e
unfolding after_all
after_all-push s es e = after_all-append s es (e ∷ [])
