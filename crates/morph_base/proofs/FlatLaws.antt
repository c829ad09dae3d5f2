-- A flat list of values as a state: the value at a key, the opening values, and one value changed.
use Rattle.std.proofs.Common.{◌≡◌, ◌≢◌, ℕ, zero, suc, subst, ◌*◌, ◌≤◌, ◌<◌, true, false, nat_lt, List, length, get_or, set, replicate, refl, sym, ◌∙◌, ap, arith, inl, inr}
use Rattle.std.proofs.Math.Nat.{mul-le-mul_right}
use Rattle.std.proofs.Math.Path.{fun_ext}
use Rattle.std.proofs.lemmas.List.{get_or-set_same, get_or-set_other}
use Rattle.std.proofs.lemmas.Nat.{same_from_place}
use Rattle.std.proofs.lemmas.Bool.{cond_both, cond-true, cond-false, and_parts, and_from, lt-ltb, ltb-true, cases_Bool}
use Rattle.morph_base.specs.declared.limits.TheConstants.{MAX}
use Rattle.morph_base.specs.declared.key.Key.{Key}
use Rattle.morph_base.specs.declared.key.Layout.{Layout}
use Rattle.morph_base.specs.Operations.{InLayout, same_key}
use Rattle.morph_base.specs.States.{opening_state}
use Rattle.morph_base.specs.Flat.{place_of, is_in_layout, state_in, AreValues, with_value}
use Rattle.morph_base.proofs.KeyLaws.{same_key-true, same_key-self, same_key-false}

in_layout-true : (l : Layout) (key : Key) → InLayout l key → is_in_layout l key ≡ true
in_layout-true l key h =
    and_from (nat_lt key.table l.tables) (nat_lt key.id l.size) (lt-ltb key.table l.tables h.table) (lt-ltb key.id l.size h.id)

in_layout-from : (l : Layout) (key : Key) → is_in_layout l key ≡ true → InLayout l key
in_layout-from l key e =
    let parts = and_parts (nat_lt key.table l.tables) (nat_lt key.id l.size) e in
    record { table = ltb-true key.table l.tables parts.0; id = ltb-true key.id l.size parts.1 }

-- the value of a key of the layout stands at its place
pub state_in-at : (l : Layout) (values : List ℕ) (key : Key) → InLayout l key → state_in l values key ≡ get_or values (place_of l key) 0
unfolding state_in
state_in-at l values key h = cond-true (is_in_layout l key) _ _ (in_layout-true l key h)

state_in-outside : (l : Layout) (values : List ℕ) (key : Key) → is_in_layout l key ≡ false → state_in l values key ≡ 0
unfolding state_in
state_in-outside l values key e = cond-false (is_in_layout l key) _ _ e

-- two keys of a layout with one place are one key
place-once : (l : Layout) (a b : Key) → InLayout l a → InLayout l b → place_of l a ≡ place_of l b → a ≡ b
place-once l a b ha hb e =
    let both = same_from_place a.table a.id b.table b.id l.size ha.id hb.id e in
    let key_of : ℕ → ℕ → Key = λ t i. record { table = t; id = i } in
    ap (λ t. key_of t a.id) both.0 ∙ ap (λ i. key_of b.table i) both.1

-- the place of a key of the layout is one of as many as there are values
pub place-inside : (l : Layout) (key : Key) → InLayout l key → place_of l key < l.tables * l.size
place-inside l key h =
    let row : suc key.table * l.size ≤ l.tables * l.size = mul-le-mul_right l.size h.table in
    let id : key.id < l.size = h.id in
    grind arith

-- values at most MAX make a state of values at most MAX
pub state_in-small : (l : Layout) (values : List ℕ) → AreValues l values → (key : Key) → state_in l values key ≤ MAX
state_in-small l values h key =
    elim (cases_Bool (is_in_layout l key)) [
      | inl e ↦
          let inside : InLayout l key = in_layout-from l key e in
          let lt : place_of l key < length values = let p = place-inside l key inside in omega (arith, h.len) in
          rw (state_in-at l values key inside) (h.small (place_of l key) 0 lt)
      | inr e ↦ rw (state_in-outside l values key e) (omega arith)
    ]

zeros-at : (n i : ℕ) → let zero_value : ℕ = 0 in get_or (replicate n zero_value) i zero_value ≡ zero_value
zeros-at zero i = refl
zeros-at (suc n) zero = refl
zeros-at (suc n) (suc i) = zeros-at n i

zero-at : (l : Layout) (n : ℕ) (key : Key) → state_in l (replicate n 0) key ≡ 0
unfolding state_in
zero-at l n key =
    cond_both (is_in_layout l key) (get_or (replicate n 0) (place_of l key) 0) 0 (λ (v : ℕ). v ≡ 0) (λ e. zeros-at n (place_of l key)) (λ e. refl)

-- nothing but zeros stands for the opening state
pub state_in-zeros : (l : Layout) (n : ℕ) → state_in l (replicate n 0) ≡ opening_state
state_in-zeros l n = fun_ext (zero-at l n)

put-at : (l : Layout) (values : List ℕ) (key : Key) (v : ℕ) → InLayout l key → place_of l key < length values →
    (k : Key) → state_in l (set values (place_of l key) v) k ≡ with_value (state_in l values) key v k
put-at l values key v h lt k =
    elim (cases_Bool (same_key key k)) [
      | inl e ↦
          let same : key ≡ k = same_key-true key k e in
          subst (λ q. state_in l (set values (place_of l key) v) q ≡ with_value (state_in l values) key v q) same
          (state_in-at l (set values (place_of l key) v) key h
          ∙ get_or-set_same values (place_of l key) v 0 lt
          ∙ sym (cond-true (same_key key key) v (state_in l values key) (same_key-self key)))
      | inr e ↦
          elim (cases_Bool (is_in_layout l k)) [
            | inl i ↦
                let inside : InLayout l k = in_layout-from l k i in
                let apart : place_of l k ≢ place_of l key = λ p. same_key-false key k e (sym (place-once l k key inside h p)) in
                state_in-at l (set values (place_of l key) v) k inside
                ∙ get_or-set_other values (place_of l key) (place_of l k) v 0 apart
                ∙ sym (state_in-at l values k inside)
                ∙ sym (cond-false (same_key key k) v (state_in l values k) e)
            | inr i ↦
                state_in-outside l (set values (place_of l key) v) k i
                ∙ sym (state_in-outside l values k i)
                ∙ sym (cond-false (same_key key k) v (state_in l values k) e)
          ]
    ]

-- a value put at a key's place
pub state_in-put : (l : Layout) (values : List ℕ) (key : Key) (v : ℕ) → InLayout l key → place_of l key < length values →
    state_in l (set values (place_of l key) v) ≡ with_value (state_in l values) key v
state_in-put l values key v h lt = fun_ext (put-at l values key v h lt)
