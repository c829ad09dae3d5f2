-- Laws of trails.
use Rattle.std.proofs.Common.{◌≡◌, ◌≢◌, ◌⊎◌, ℕ, zero, suc, ◌<◌, Bool, true, false, eqb, List, [], ◌∷◌, ◌++◌, length, get_or, refl, sym, ap, ◌∙◌, subst, inl, inr, arith, append_assoc, zero-lt-suc, suc-le-suc}
use Rattle.std.specs.Prelude.{Contains, ◌==◌, if◌then◌else◌}
use Rattle.std.proofs.lemmas.Bool.{cases_eq, eq-eqb, ne_eqb, cond-true, cond-false, false≢true}
use Rattle.std.proofs.lemmas.List.Elements.{Contains-append_left, Contains-append_right, Contains-push_cases}
use Rattle.morph_base.specs.declared.plan.Plan.{Plan}
use Rattle.morph_base.specs.declared.word.OpState.{OpState}
use Rattle.morph_base.specs.declared.word.OpWord.{OpWord}
use Rattle.morph_base.specs.Words.{is_settled, code_of}
use Rattle.morph_base.proofs.WordLaws.{one_state}
use Rattle.interleaving_core.specs.Core.{blocked}
use Rattle.op_words.specs.declared.trail.Item.{Item}
use Rattle.op_words.specs.Trails.{loaded, last_word, HasLast, IsDisturbed, IsReached, Along, IsSteadyTrail, IsCalmAt, IsCalm}

-- ---- words are equal or not

word_of : ℕ → ℕ → OpState → ℕ → OpWord
word_of value attempt state by = record { value = value; attempt = attempt; state = state; by = by }

pub same_parts : (a b : OpWord) → a.value ≡ b.value → a.attempt ≡ b.attempt → a.by ≡ b.by → a.state ≡ b.state → a ≡ b
unfolding word_of
same_parts a b value attempt by state =
    ap (λ x. word_of x a.attempt a.state a.by) value ∙ ap (λ x. word_of b.value x a.state a.by) attempt ∙ ap (λ x. word_of b.value b.attempt x a.by) state
    ∙ ap (λ x. word_of b.value b.attempt b.state x) by

pub cases_word : (a b : OpWord) → (a ≡ b) ⊎ (a ≢ b)
cases_word a b =
    elim (cases_eq a.value b.value) [
      | inr other ↦ inr (λ e. other (ap (λ (w : OpWord). w.value) e))
      | inl value ↦
          elim (cases_eq a.attempt b.attempt) [
            | inr other ↦ inr (λ e. other (ap (λ (w : OpWord). w.attempt) e))
            | inl attempt ↦
                elim (cases_eq a.by b.by) [
                  | inr other ↦ inr (λ e. other (ap (λ (w : OpWord). w.by) e))
                  | inl by ↦
                      elim (cases_eq (code_of a.state) (code_of b.state)) [
                        | inr other ↦ inr (λ e. other (ap (λ (w : OpWord). code_of w.state) e))
                        | inl code ↦ inl (same_parts a b value attempt by (one_state a.state b.state code))
                      ]
                ]
          ]
    ]

pub append_none : (zs : List Item) → zs ++ [] ≡ zs
append_none [] = refl
append_none (z ∷ zs) = ap (λ r. z ∷ r) (append_none zs)

abbrev pub item_of : ℕ → OpWord → Bool → Item
item_of op word own = record { op = op; word = word; own = own }

-- ---- the last word

pub last-none : (o : ℕ) (d : OpWord) → last_word o d [] ≡ d
unfolding last_word
last-none o d = refl

pub last-append : (o : ℕ) (d : OpWord) (xs ys : List Item) → last_word o d (xs ++ ys) ≡ last_word o (last_word o d xs) ys
unfolding last_word
last-append o d [] ys = refl
last-append o d (t ∷ ts) ys = last-append o (if t.op == o then t.word else d) ts ys

pub last-one : (o : ℕ) (d : OpWord) (t : Item) → t.op ≡ o → last_word o d (t ∷ []) ≡ t.word
unfolding last_word
last-one o d t same = cond-true (eqb t.op o) t.word d (eq-eqb t.op o same)

pub last-skip : (o : ℕ) (d : OpWord) (t : Item) (ts : List Item) → t.op ≢ o → last_word o d (t ∷ ts) ≡ last_word o d ts
unfolding last_word
last-skip o d t ts other = ap (λ w. last_word o w ts) (cond-false (eqb t.op o) t.word d (ne_eqb t.op o other))

pub last-cons : (o : ℕ) (d : OpWord) (t : Item) (ts : List Item) → t.op ≡ o → last_word o d (t ∷ ts) ≡ last_word o t.word ts
unfolding last_word
last-cons o d t ts same = ap (λ w. last_word o w ts) (cond-true (eqb t.op o) t.word d (eq-eqb t.op o same))

-- the last word of a later part is that of the whole
pub last_later : {o : ℕ} {w : OpWord} (xs : List Item) {ys : List Item} → HasLast o ys w → HasLast o (xs ++ ys) w
last_later {o} xs {ys} last = record { is = λ d. last-append o d xs ys ∙ last.is (last_word o d xs) }

pub one_last : {o : ℕ} {xs : List Item} {a b : OpWord} → HasLast o xs a → HasLast o xs b → a ≡ b
one_last {o} {xs} {a} last other = sym (last.is a) ∙ other.is a

-- the last word stands in the trail
pub last_or : (o : ℕ) (d : OpWord) (xs : List Item) → ((t : Item) × Contains xs t × (t.op ≡ o) × (t.word ≡ last_word o d xs)) ⊎ ((e : OpWord) → last_word o e xs ≡ e)
last_or o d [] = inr (λ e. last-none o e)
last_or o d (x ∷ xs) =
    elim (cases_eq x.op o) [
      | inl here ↦
          inl
          (elim (last_or o x.word xs) [
            | inl found ↦ (found.0, (suc found.1.0, suc-le-suc found.1.1, found.1.2), found.2, found.3 ∙ sym (last-cons o d x xs here))
            | inr empty ↦ (x, (0, zero-lt-suc (length xs), refl), here, sym (empty x.word) ∙ sym (last-cons o d x xs here))
          ])
      | inr other ↦
          elim (last_or o d xs) [
            | inl found ↦ inl (found.0, (suc found.1.0, suc-le-suc found.1.1, found.1.2), found.2, found.3 ∙ sym (last-skip o d x xs other))
            | inr empty ↦ inr (λ e. last-skip o e x xs other ∙ empty e)
          ]
    ]

pub last_item : (o : ℕ) (xs : List Item) (w : OpWord) → HasLast o xs w → (t : Item) × Contains xs t × (t.op ≡ o) × (t.word ≡ w)
last_item o xs w last =
    elim (last_or o (blocked 1) xs) [
      | inl found ↦ (found.0, found.1, found.2, found.3 ∙ last.is (blocked 1))
      | inr empty ↦
          let one : blocked 1 ≡ w = sym (empty (blocked 1)) ∙ last.is (blocked 1) in
          let two : blocked 2 ≡ w = sym (empty (blocked 2)) ∙ last.is (blocked 2) in
          let attempts = ap (λ (x : OpWord). x.attempt) (one ∙ sym two) in
          absurd (omega arith)
    ]

-- ---- disturbed

-- what is disturbed in a part of a trail is disturbed in the trail
pub disturbed_later : {o : ℕ} (xs : List Item) {ys : List Item} → IsDisturbed o ys → IsDisturbed o (xs ++ ys)
disturbed_later xs {ys} is = record {
  before = xs ++ is.before;
  known = is.known;
  found = is.found;
  rest = is.rest;
  split = ap (λ zs. xs ++ zs) is.split ∙ sym (append_assoc xs is.before _);
  last = last_later xs is.last;
  differs = is.differs;
}

pub disturbed_more : {o : ℕ} {xs : List Item} (ys : List Item) → IsDisturbed o xs → IsDisturbed o (xs ++ ys)
disturbed_more {o} {xs} ys is = record {
  before = is.before;
  known = is.known;
  found = is.found;
  rest = is.rest ++ ys;
  split = ap (λ zs. zs ++ ys) is.split ∙ append_assoc is.before _ ys;
  last = is.last;
  differs = is.differs;
}

-- where nobody of this hand changed o in ys, its last word stays or it was disturbed
pub stays_or : {o : ℕ} {w : OpWord} (xs ys : List Item) → HasLast o xs w → ((t : Item) → Contains ys t → t.op ≡ o → t.own ≡ false)
    → HasLast o (xs ++ ys) w ⊎ IsDisturbed o (xs ++ ys)
stays_or {o} {w} xs [] last loads = inl (record { is = λ d. last-append o d xs [] ∙ last-none o (last_word o d xs) ∙ last.is d })
stays_or {o} {w} xs (t ∷ ts) last loads =
    let whole : (xs ++ t ∷ []) ++ ts ≡ xs ++ t ∷ ts = append_assoc xs (t ∷ []) ts in
    let later : (x : Item) → Contains ts x → x.op ≡ o → x.own ≡ false = λ x found. loads x (suc found.0, suc-le-suc found.1, found.2) in
    let go : HasLast o (xs ++ t ∷ []) w → HasLast o (xs ++ t ∷ ts) w ⊎ IsDisturbed o (xs ++ t ∷ ts) =
    λ more. subst (λ zs. HasLast o zs w ⊎ IsDisturbed o zs) whole (stays_or (xs ++ t ∷ []) ts more later) in
    elim (cases_eq t.op o) [
      | inr other ↦ go (record { is = λ d. last-append o d xs (t ∷ []) ∙ last-skip o (last_word o d xs) t [] other ∙ last-none o (last_word o d xs) ∙ last.is d })
      | inl same ↦
          elim (cases_word w t.word) [
            | inl alike ↦ go (record { is = λ d. last-append o d xs (t ∷ []) ∙ last-one o (last_word o d xs) t same ∙ sym alike })
            | inr differs ↦
                let own : t.own ≡ false = loads t (0, zero-lt-suc (length ts), refl) same in
                let is : t ≡ loaded o t.word = ap (λ i. item_of i t.word t.own) same ∙ ap (λ b. item_of o t.word b) own in
                inr (record { before = xs; known = w; found = t.word; rest = ts; split = ap (λ x. xs ++ x ∷ ts) is; last = last; differs = differs })
          ]
    ]

-- ---- along a list

pub along_none : (P : List Item → Item → Type 0) (pre : List Item) → Along P pre []
unfolding Along
along_none P pre = tt

pub along-append : (P : List Item → Item → Type 0) (pre xs ys : List Item) → Along P pre xs → Along P (pre ++ xs) ys → Along P pre (xs ++ ys)
unfolding Along
along-append P pre [] ys first second = subst (λ zs. Along P zs ys) (append_none pre) second
along-append P pre (t ∷ ts) ys first second =
    (first.0, along-append P (pre ++ t ∷ []) ts ys first.1 (subst (λ zs. Along P zs ys) (sym (append_assoc pre (t ∷ []) ts)) second))

pub along_at : (P : List Item → Item → Type 0) (pre xs : List Item) → Along P pre xs → (before : List Item) (t : Item) (rest : List Item) → xs ≡ before ++ t ∷ rest → P (pre ++ before) t
unfolding Along
along_at P pre xs along before t rest split = at pre before (subst (Along P pre) split along)
  where
    at : (ps bs : List Item) → Along P ps (bs ++ t ∷ rest) → P (ps ++ bs) t
    at ps [] holds = subst (λ zs. P zs t) (sym (append_none ps)) holds.0
    at ps (b ∷ bs) holds = subst (λ zs. P zs t) (append_assoc ps (b ∷ []) bs) (at (ps ++ b ∷ []) bs holds.1)

-- with a lone root nothing is disturbed
pub calm_undisturbed : (pre xs : List Item) → IsCalm pre xs → (o : ℕ) → IsDisturbed o xs → ⊥
calm_undisturbed pre xs calm o is =
    let here : IsCalmAt (pre ++ is.before) (loaded o is.found) = along_at IsCalmAt pre xs calm is.before (loaded o is.found) is.rest is.split in
    is.differs (sym (is.last.is (last_word o (blocked 1) pre)) ∙ sym (last-append o (blocked 1) pre is.before) ∙ sym (here.known refl))

-- ---- settled words stay

pub settled_last : (tag : ℕ) (pre xs : List Item) → IsSteadyTrail tag pre xs → (o : ℕ) (n : Item) → n.op ≡ o → is_settled n.word.state ≡ true
    → Contains (pre ++ xs) n → (d : OpWord) → (Contains pre n → d ≡ n.word) → last_word o d xs ≡ n.word
unfolding Along last_word
settled_last tag pre [] steady o n same settled inside d first = first (subst (λ zs. Contains zs n) (append_none pre) inside)
settled_last tag pre (t ∷ ts) steady o n same settled inside d first =
    let next : (w : OpWord) → (Contains (pre ++ t ∷ []) n → w ≡ n.word) → last_word o w ts ≡ n.word =
    λ w last. settled_last tag (pre ++ t ∷ []) ts steady.1 o n same settled (subst (λ zs. Contains zs n) (sym (append_assoc pre (t ∷ []) ts)) inside) w last in
    elim (cases_eq t.op o) [
      | inl here ↦
          subst (λ w. last_word o w ts ≡ n.word) (sym (cond-true (eqb t.op o) t.word d (eq-eqb t.op o here)))
          (next t.word
          (λ found.
          elim (Contains-push_cases pre t n found) [
            | inl earlier ↦ steady.0.settled n earlier (same ∙ sym here) settled
            | inr is ↦ ap (λ (x : Item). x.word) is
          ]))
      | inr other ↦
          subst (λ w. last_word o w ts ≡ n.word) (sym (cond-false (eqb t.op o) t.word d (ne_eqb t.op o other)))
          (next d
          (λ found.
          elim (Contains-push_cases pre t n found) [
            | inl earlier ↦ first earlier
            | inr is ↦ absurd (other (ap (λ (x : Item). x.op) is ∙ same))
          ]))
    ]

-- an element stands between two parts
pub split_at : {X : Type 0} (xs : List X) (x : X) → Contains xs x → (ys : List X) × (zs : List X) × (xs ≡ ys ++ x ∷ zs)
split_at [] x found = absurd (omega (arith, found.1))
split_at {X} (y ∷ ys) x found = at found.0 found.1 found.2 (λ k lt is. split_at ys x (k, lt, is))
  where
    at : (k : ℕ) → k < length (y ∷ ys) → get_or (y ∷ ys) k x ≡ x → ((k : ℕ) → k < length ys → get_or ys k x ≡ x → (ls : List X) × (bs : List X) × (ys ≡ ls ++ x ∷ bs))
        → (ls : List X) × (bs : List X) × (y ∷ ys ≡ ls ++ x ∷ bs)
    at zero lt is later = ([], ys, ap (λ z. z ∷ ys) is)
    at (suc k) lt is later = let rest = later k (lt-from k lt) is in (y ∷ rest.0, rest.1, ap (λ zs. y ∷ zs) rest.2)
      where
        lt-from : (n : ℕ) → suc n < suc (length ys) → n < length ys
        lt-from n less = omega arith

pub along_contains : (P : List Item → Item → Type 0) (pre xs : List Item) → Along P pre xs → (t : Item) → Contains xs t → (before : List Item) × (rest : List Item) × (xs ≡ before ++ t ∷ rest) × P (pre ++ before) t
along_contains P pre xs along t found = let parts = split_at xs t found in (parts.0, parts.1, parts.2, along_at P pre xs along parts.0 t parts.1 parts.2)

-- a source that was loaded with one word and later with another was disturbed
pub changed : (s : ℕ) (xs ys : List Item) (a b : OpWord) → Contains xs (loaded s a) → Contains ys (loaded s b) → a ≢ b
    → ((t : Item) → Contains (xs ++ ys) t → t.op ≡ s → t.own ≡ false) → IsDisturbed s (xs ++ ys)
changed s xs ys a b first second differs loads =
    let front = split_at xs (loaded s a) first in
    let back = split_at ys (loaded s b) second in
    let head : List Item = front.0 ++ loaded s a ∷ [] in
    let mid : List Item = front.1 ++ back.0 in
    let whole : xs ++ ys ≡ (head ++ mid) ++ loaded s b ∷ back.1 =
    ap (λ zs. zs ++ ys) front.2 ∙ ap (λ zs. (front.0 ++ loaded s a ∷ front.1) ++ zs) back.2
    ∙ regroup front.0 front.1 back.0 (loaded s a) (loaded s b ∷ back.1) in
    let known : HasLast s head a = record { is = λ d. last-append s d front.0 (loaded s a ∷ []) ∙ last-one s (last_word s d front.0) (loaded s a) refl } in
    elim (stays_or head mid known (λ t found same. loads t (subst (λ zs. Contains zs t) (sym whole) (Contains-append_left (head ++ mid) (loaded s b ∷ back.1) t (Contains-append_right head mid t found))) same)) [
      | inr is ↦ subst (IsDisturbed s) (sym whole) (disturbed_more (loaded s b ∷ back.1) is)
      | inl last ↦ record { before = head ++ mid; known = a; found = b; rest = back.1; split = whole; last = last; differs = differs }
    ]
  where
    regroup : (ls bs cs : List Item) (t : Item) (zs : List Item) → (ls ++ t ∷ bs) ++ (cs ++ zs) ≡ ((ls ++ t ∷ []) ++ (bs ++ cs)) ++ zs
    regroup ls bs cs t zs = simp append_assoc

-- ---- reached

pub reached_more : {p : Plan} {o : ℕ} {xs : List Item} (ys : List Item) → IsReached p o xs → IsReached p o (xs ++ ys)
reached_more {p} {o} {xs} ys is = record { item = is.item; inside = Contains-append_left xs ys is.item is.inside; tells = is.tells }

pub reached_later : {p : Plan} {o : ℕ} (xs : List Item) {ys : List Item} → IsReached p o ys → IsReached p o (xs ++ ys)
reached_later xs {ys} is = record { item = is.item; inside = Contains-append_right xs ys is.item is.inside; tells = is.tells }

-- where own steps do not settle o, and it was not seen settled, a lone root sees it nowhere settled
pub calm_open : (o : ℕ) (pre xs : List Item) → IsCalm pre xs → ((t : Item) → Contains xs t → t.own ≡ true → t.op ≡ o → is_settled t.word.state ≡ false) → ((t : Item) → Contains pre t → t.op ≡ o → is_settled t.word.state ≡ true → ⊥)
    → (t : Item) → Contains (pre ++ xs) t → t.op ≡ o → is_settled t.word.state ≡ true → ⊥
unfolding Along
calm_open o pre [] calm open' none t inside same settled = none t (subst (λ zs. Contains zs t) (append_none pre) inside) same settled
calm_open o pre (x ∷ xs) calm open' none t inside same settled =
    calm_open o (pre ++ x ∷ []) xs calm.1 (λ y found. open' y (suc found.0, suc-le-suc found.1, found.2))
    (λ y found here is.
    elim (Contains-push_cases pre x y found) [
      | inl earlier ↦ none y earlier here is
      | inr now ↦ unsettled (ap (λ (z : Item). z.op) now ∙ here) (ap (λ (z : Item). is_settled z.word.state) now ∙ is) x.own refl
    ])
    t (subst (λ zs. Contains zs t) (sym (append_assoc pre (x ∷ []) xs)) inside) same settled
  where
    unsettled : x.op ≡ o → is_settled x.word.state ≡ true → (b : Bool) → x.own ≡ b → ⊥
    unsettled here is true own = false≢true (sym (open' x (0, zero-lt-suc (length xs), refl) own here) ∙ is)
    unsettled here is false own =
        let known : x.word ≡ last_word o (blocked 1) pre = calm.0.known own ∙ ap (λ n. last_word n (blocked 1) pre) here in
        elim (last_or o (blocked 1) pre) [
          | inl found ↦ none found.0 found.1 found.2 (ap (λ (w : OpWord). is_settled w.state) (found.3 ∙ sym known) ∙ is)
          | inr empty ↦ false≢true (ap (λ (w : OpWord). is_settled w.state) (sym (known ∙ empty (blocked 1))) ∙ is)
        ]
