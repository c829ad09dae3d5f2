-- One changed number, and one more entry.
use Rattle.std.proofs.Common.{◌≡◌, ◌≢◌, ℕ, suc, ◌+◌, ◌≤◌, Bool, true, false, cond, ◌&&◌, eqb, List, [], ◌∷◌, ◌++◌, length, get_or, refl, ap, ◌∙◌, inl, inr, ◌⊎◌, arith, zero-lt-suc, suc-le-suc}
use Rattle.std.specs.Prelude.{Contains, count_by, ◌==◌}
use Rattle.std.proofs.lemmas.Bool.{eq-eqb, ne_eqb, eqb-true, cases_eq, cases_Bool, cond-true, cond-false, and_from, and_left, and_right, and_parts}
use Rattle.std.proofs.lemmas.List.Sums.{sum_by_push, sum_by-cons, get_or-le-sum_by}
use Rattle.std.proofs.lemmas.List.Elements.{Contains-append_left}
use Rattle.interleaving_core.specs.declared.entry.Entry.{Entry}
use Rattle.interleaving_core.specs.declared.entry.Settling.{Settling}
use Rattle.interleaving_core.specs.Core.{put, entries_at, settlings_at}

-- ---- one changed number

pub put_here : {A : Type 0} (f : ℕ → A) (i : ℕ) (a : A) → put f i a i ≡ a
unfolding put
put_here f i a = cond-true (eqb i i) a (f i) (eq-eqb i i refl)

pub put_else : {A : Type 0} (f : ℕ → A) (i : ℕ) (a : A) (j : ℕ) → j ≢ i → put f i a j ≡ f j
unfolding put
put_else f i a j other = cond-false (eqb j i) a (f j) (ne_eqb j i other)

-- what holds of the changed value, and of each other one where it is not the changed one
pub put_cases : {A : Type 0} (f : ℕ → A) (i : ℕ) (a : A) (j : ℕ) → ((j ≡ i) × (put f i a j ≡ a)) ⊎ ((j ≢ i) × (put f i a j ≡ f j))
put_cases f i a j =
    elim (cases_eq j i) [
      | inl same ↦ inl (same, ap (put f i a) same ∙ put_here f i a)
      | inr other ↦ inr (other, put_else f i a j other)
    ]

-- ---- one more element

pub in_more : {X : Type 0} (xs : List X) (x y : X) → Contains xs y → Contains (xs ++ x ∷ []) y
in_more xs x y = Contains-append_left xs (x ∷ []) y

pub count_more : {X : Type 0} (q : X → Bool) (xs : List X) (x : X) → count_by q (xs ++ x ∷ []) ≡ count_by q xs + cond (q x) 1 0
count_more q xs x = sum_by_push (λ y. cond (q y) 1 0) xs x

pub count_none : {X : Type 0} (q : X → Bool) (xs : List X) → ((x : X) → Contains xs x → q x ≡ false) → count_by q xs ≡ 0
count_none q [] none = refl
count_none {X} q (x ∷ xs) none =
    let counted : X → ℕ = λ y. cond (q y) 1 0 in
    let later : (y : X) → Contains xs y → Contains (x ∷ xs) y = λ y found. (suc found.0, suc-le-suc found.1, found.2) in
    sum_by-cons counted x xs
    ∙ ap (λ b. cond b 1 0 + count_by q xs) (none x (0, zero-lt-suc (length xs), refl))
    ∙ ap (λ n. 0 + n) (count_none q xs (λ y found. none y (later y found)))

-- an element that passes counts
pub count_some : {X : Type 0} (q : X → Bool) (xs : List X) (x : X) → Contains xs x → q x ≡ true → 1 ≤ count_by q xs
count_some {X} q xs x found passes =
    let counted : X → ℕ = λ y. cond (q y) 1 0 in
    let least : counted (get_or xs found.0 x) ≤ count_by q xs = get_or-le-sum_by counted xs found.0 x found.1 in
    let one : counted (get_or xs found.0 x) ≡ 1 = ap counted found.2 ∙ ap (λ b. cond b 1 0) passes in
    omega arith

pub entries-more_else : (o a : ℕ) (es : List Entry) (e : Entry) → e.op ≢ o → entries_at o a (es ++ e ∷ []) ≡ entries_at o a es
entries-more_else o a es e other =
    let q : Entry → Bool = λ x. (x.op == o) && (x.attempt == a) in
    count_more q es e ∙ ap (λ b. count_by q es + cond b 1 0) (and_left (eqb e.op o) (eqb e.attempt a) (ne_eqb e.op o other)) ∙ omega arith

pub entries-more_at : (o a : ℕ) (es : List Entry) (e : Entry) → e.op ≡ o → e.attempt ≡ a → entries_at o a (es ++ e ∷ []) ≡ entries_at o a es + 1
entries-more_at o a es e op_is attempt_is =
    let q : Entry → Bool = λ x. (x.op == o) && (x.attempt == a) in
    count_more q es e ∙ ap (λ b. count_by q es + cond b 1 0) (and_from (eqb e.op o) (eqb e.attempt a) (eq-eqb e.op o op_is) (eq-eqb e.attempt a attempt_is))

pub entries-more_other : (o a : ℕ) (es : List Entry) (e : Entry) → e.attempt ≢ a → entries_at o a (es ++ e ∷ []) ≡ entries_at o a es
entries-more_other o a es e other =
    let q : Entry → Bool = λ x. (x.op == o) && (x.attempt == a) in
    count_more q es e ∙ ap (λ b. count_by q es + cond b 1 0) (and_right (eqb e.op o) (eqb e.attempt a) (ne_eqb e.attempt a other)) ∙ omega arith

-- an operation whose entries are all of other attempts has none at this one
pub entries-none : (o a : ℕ) (es : List Entry) → ((e : Entry) → Contains es e → e.op ≡ o → e.attempt ≢ a) → entries_at o a es ≡ 0
entries-none o a es none =
    count_none (λ x. (x.op == o) && (x.attempt == a)) es
    (λ e inside.
    elim (cases_Bool ((e.op == o) && (e.attempt == a))) [
      | inr fails ↦ fails
      | inl passes ↦ let both = and_parts (eqb e.op o) (eqb e.attempt a) passes in absurd (none e inside (eqb-true e.op o both.0) (eqb-true e.attempt a both.1))
    ])

-- an entry of an operation at an attempt counts
pub entries-some : (o a : ℕ) (es : List Entry) (e : Entry) → Contains es e → e.op ≡ o → e.attempt ≡ a → entries_at o a es ≡ 0 → ⊥
entries-some o a es e inside op_is attempt_is none =
    let least : 1 ≤ entries_at o a es =
    count_some (λ x. (x.op == o) && (x.attempt == a)) es e inside (and_from (eqb e.op o) (eqb e.attempt a) (eq-eqb e.op o op_is) (eq-eqb e.attempt a attempt_is)) in
    absurd (omega arith)

pub settlings-more_else : (o : ℕ) (xs : List Settling) (x : Settling) → x.op ≢ o → settlings_at o (xs ++ x ∷ []) ≡ settlings_at o xs
settlings-more_else o xs x other =
    let q : Settling → Bool = λ y. y.op == o in
    count_more q xs x ∙ ap (λ b. count_by q xs + cond b 1 0) (ne_eqb x.op o other) ∙ omega arith

pub settlings-more_at : (o : ℕ) (xs : List Settling) (x : Settling) → x.op ≡ o → settlings_at o (xs ++ x ∷ []) ≡ settlings_at o xs + 1
settlings-more_at o xs x op_is =
    let q : Settling → Bool = λ y. y.op == o in
    count_more q xs x ∙ ap (λ b. count_by q xs + cond b 1 0) (eq-eqb x.op o op_is)
