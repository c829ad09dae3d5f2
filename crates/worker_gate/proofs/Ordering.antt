-- The counters of parts, and the parts that a worker is at in its turns.
use Rattle.std.proofs.Common.{List, ◌≡◌, ◌⊎◌, ℕ, ◌+◌, ◌-◌, ◌*◌, ◌/◌, ◌%◌, ◌<◌, ◌≤◌, sym, ap, ◌∙◌, inl, inr, arith}
use Rattle.std.proofs.lemmas.Bool.{cases_lt}
use Rattle.std.proofs.lemmas.Nat.{div_below, div-add-mod', div-mul-add, mod_below, mod-mul-add}
use Rattle.worker_gate.specs.Parts.{AreShares, own_part, part_at, part_counter, part_items, parted}
use Rattle.worker_gate.specs.declared.parts.Shares.{Shares}

-- ---- turns

-- one circle at most
mod_small : (n a : ℕ) → a < n → a % n ≡ a
mod_small n a lt = ap (λ k. k % n) (sym (none n a)) ∙ mod-mul-add 0 n a lt
  where
    none : (n a : ℕ) → 0 * n + a ≡ a
    none n a = grind arith

mod_past : (n a : ℕ) → n ≤ a → a < n + n → a % n ≡ a - n
mod_past n a least most = ap (λ k. k % n) (sym (one n a least)) ∙ mod-mul-add 1 n (a - n) (omega (arith, least, most))
  where
    one : (n a : ℕ) → n ≤ a → 1 * n + (a - n) ≡ a
    one n a least = omega (arith, least)

-- from a place on, in a circle of n places
circle : (n own turn : ℕ) → own < n → turn < n → ((own + turn < n) × ((own + turn) % n ≡ own + turn)) ⊎ ((n ≤ own + turn) × ((own + turn) % n ≡ own + turn - n))
circle n own turn low small =
    elim (cases_lt (own + turn) n) [
      | inl lt ↦ inl (lt, mod_small n (own + turn) lt)
      | inr past ↦ inr (past, mod_past n (own + turn) past (omega (arith, low, small)))
    ]

module _ (s : Shares) (are : AreShares s) where
  own_inside : (number : ℕ) → own_part s number < s.parts
  own_inside number = mod_below (number / s.each) s.parts (let some = are.some in omega (arith, some))

  pub at_inside : (number turn : ℕ) → part_at s number turn < s.parts
  at_inside number turn = mod_below (own_part s number + turn) s.parts (let some = are.some in omega (arith, some))

  -- in different turns a worker is at different parts
  pub at_apart : (number turn other : ℕ) → turn < s.parts → other < s.parts → part_at s number turn ≡ part_at s number other → turn ≡ other
  at_apart number turn other lt less same =
      let low = own_inside number in
      elim (circle s.parts (own_part s number) turn low lt) [
        | inl here ↦
            elim (circle s.parts (own_part s number) other low less) [
              | inl there ↦ let a = here.1 in let b = there.1 in omega (arith, a, b, same)
              | inr there ↦ let a = here.1 in let b = there.1 in let c = there.0 in omega (arith, a, b, c, same, low, lt, less)
            ]
        | inr here ↦
            elim (circle s.parts (own_part s number) other low less) [
              | inl there ↦ let a = here.1 in let b = there.1 in let c = here.0 in omega (arith, a, b, c, same, low, lt, less)
              | inr there ↦ let a = here.1 in let b = there.1 in let c = here.0 in let d = there.0 in omega (arith, a, b, c, d, same)
            ]
      ]

  -- a worker is at each part in some turn
  pub turn_for : (number part : ℕ) → part < s.parts → (turn : ℕ) × (turn < s.parts) × (part_at s number turn ≡ part)
  turn_for number part lt =
      let low = own_inside number in
      elim (cases_lt part (own_part s number)) [
        | inr past ↦ (part - own_part s number, omega (arith, lt, past), ap (λ k. k % s.parts) (sum past) ∙ mod_small s.parts part lt)
        | inl less ↦ (
          part + s.parts - own_part s number,
          omega (arith, low, less),
          ap (λ k. k % s.parts) (around less low) ∙ mod_past s.parts (part + s.parts) (omega arith) (omega (arith, lt)) ∙ back part s.parts,
        )
      ]
    where
      sum : own_part s number ≤ part → own_part s number + (part - own_part s number) ≡ part
      sum past = omega (arith, past)

      around : part < own_part s number → own_part s number < s.parts → own_part s number + (part + s.parts - own_part s number) ≡ part + s.parts
      around less low = omega (arith, less, low)

      back : (a n : ℕ) → a + n - n ≡ a
      back a n = omega arith

-- ---- counters

module _ (parts : ℕ) where
  pub stage_of_counter : (stage part : ℕ) → part < parts → part_counter parts stage part / parts ≡ stage
  stage_of_counter stage part lt = div-mul-add stage parts part lt

  pub part_of_counter : (stage part : ℕ) → part < parts → part_counter parts stage part % parts ≡ part
  part_of_counter stage part lt = mod-mul-add stage parts part lt

  -- what the counter of a part is for
  pub parted_is : {X : Type 0} (list : ℕ → List X) (stage part : ℕ) → part < parts → parted list parts (part_counter parts stage part) ≡ part_items (list stage) parts part
  parted_is list stage part lt =
      ap (λ k. part_items (list k) parts (part_counter parts stage part % parts)) (stage_of_counter stage part lt)
      ∙ ap (λ k. part_items (list stage) parts k) (part_of_counter stage part lt)

  -- each counter is that of a part
  pub counter_again : (c : ℕ) → part_counter parts (c / parts) (c % parts) ≡ c
  counter_again c = div-add-mod' c parts

  pub stage_below : (c stages : ℕ) → 0 < parts → c < stages * parts → c / parts < stages
  stage_below c stages some lt = div_below c parts stages some lt

  pub counter_inside : (c : ℕ) → 0 < parts → c % parts < parts
  counter_inside c some = mod_below c parts some

  -- counters of one stage are below those of the next
  pub counter_next : (stage part : ℕ) → part < parts → part_counter parts stage part < (stage + 1) * parts
  counter_next stage part lt = let more = one_more stage in omega (arith, lt, more)
    where
      one_more : (s : ℕ) → (s + 1) * parts ≡ s * parts + parts
      one_more s = grind arith

  pub counter_below : (stage stages part : ℕ) → stage < stages → part < parts → part_counter parts stage part < stages * parts
  counter_below stage stages part low lt =
      let next = counter_next stage part lt in
      let rest = far (stages - (stage + 1)) in
      let all : stage + 1 + (stages - (stage + 1)) ≡ stages = omega (arith, low) in
      let whole = ap (λ k. k * parts) all in
      omega (arith, next, rest, whole)
    where
      far : (k : ℕ) → (stage + 1 + k) * parts ≡ (stage + 1) * parts + k * parts
      far k = grind arith

  -- the counters of all parts are at most 4 for each stage
  pub counters_fit : (stages : ℕ) → parts ≤ 4 → stages * parts ≤ 4 * stages
  counters_fit stages few = let rest = far (4 - parts) in let all : parts + (4 - parts) ≡ 4 = omega (arith, few) in let whole = ap (λ k. stages * k) all in omega (arith, rest, whole)
    where
      far : (k : ℕ) → stages * (parts + k) ≡ stages * parts + stages * k
      far k = grind arith

  pub counter_fits : (stage stages part : ℕ) → parts ≤ 4 → stage < stages → part < parts → part_counter parts stage part < 4 * stages
  counter_fits stage stages part few low lt = let below = counter_below stage stages part low lt in let fit = counters_fit stages few in omega (arith, below, fit)

  -- a counter is that of one part of one stage
  pub counter_apart : (stage part other else : ℕ) → part < parts → else < parts → part_counter parts stage part ≡ part_counter parts other else → (stage ≡ other) × (part ≡ else)
  counter_apart stage part other else lt less same = (
    sym (stage_of_counter stage part lt) ∙ ap (λ k. k / parts) same ∙ stage_of_counter other else less,
    sym (part_of_counter stage part lt) ∙ ap (λ k. k % parts) same ∙ part_of_counter other else less,
  )
