-- Each hand has one trail in the view of the root that closed a board.
use Rattle.std.proofs.Common.{refl, ◌≡◌, ℕ, ◌+◌, ◌≤◌, eqb, List, sym, ap, ◌∙◌, inl, inr, arith, eq-eqb, zero, suc, ne_eqb, ◌<◌}
use Rattle.std.specs.Prelude.{Contains, sum_by, count_by}
use Rattle.std.specs.List.{range_with_len}
use Rattle.std.proofs.lemmas.Bool.{cases_eq, cond-true, cond-false}
use Rattle.morph_base.specs.declared.plan.Plan.{Plan}
use Rattle.interleaving_core.proofs.Stale.{one_only}
use Rattle.op_words.specs.declared.trail.Item.{Item}
use Rattle.op_words.specs.declared.trail.Joined.{Joined}
use Rattle.op_words.specs.declared.trail.View.{View}
use Rattle.op_words.specs.Closing.{HasTrail, EndsSound}
use Rattle.op_words.proofs.Closing.{is_it, range_once}
use Rattle.op_words.proofs.Rows.{sum_range_more}
use Rattle.op_words.proofs.Sizes.{sum_inside}

-- a number that counts in a range stands in it
range_has : (m a n : ℕ) → 1 ≤ sum_by (is_it m) (range_with_len a n) → (a ≤ m) × (m < a + n)
range_has m a zero some = absurd (omega (arith, some))
range_has m a (suc n) some =
    let more = sum_range_more (is_it m) a n in
    elim (cases_eq (a + n) m) [
      | inl same ↦ (omega (arith, same), omega (arith, same))
      | inr other ↦
          let none : is_it m (a + n) ≡ 0 = cond-false (eqb (a + n) m) 1 0 (ne_eqb (a + n) m other) in
          let before = range_has m a n (omega (arith, some, more, none)) in
          (before.0, (let less = before.1 in omega (arith, less)))
    ]

-- each tag has one trail
module _ {p : Plan} {cap counters : ℕ} {ws : List ℕ} {v : View} (end : EndsSound p cap counters ws v) where
  abbrev of_tag : ℕ → Joined → ℕ
  of_tag t x = is_it t x.tag

  most : (t : ℕ) → is_it t v.tag + sum_by (of_tag t) v.joined ≤ 1
  most t = let law = end.tags_once (is_it t) in let few = range_once t 1 v.made in omega (arith, law, few)

  its : (t n : ℕ) → n ≡ t → is_it t n ≡ 1
  its t n is = cond-true (eqb n t) 1 0 (eq-eqb n t is)

  own_or_joined : (t : ℕ) (x : Joined) → v.tag ≡ t → Contains v.joined x → x.tag ≡ t → ⊥
  own_or_joined t x own inside other =
      let all = most t in let mine = its t v.tag own in let theirs : of_tag t x ≡ 1 = its t x.tag other in let least = sum_inside (of_tag t) v.joined x inside in
      omega (arith, all, mine, theirs, least)

  one_joined : (t : ℕ) (x y : Joined) → Contains v.joined x → Contains v.joined y → x.tag ≡ t → y.tag ≡ t → x ≡ y
  one_joined t x y first second one two =
      let all = most t in
      let few : count_by (λ (z : Joined). eqb z.tag t) v.joined ≤ 1 = omega (arith, all) in
      one_only (λ (z : Joined). eqb z.tag t) v.joined x y few first second (eq-eqb x.tag t one) (eq-eqb y.tag t two)

  pub trail_alone : (t : ℕ) (xs ys : List Item) → HasTrail v t xs → HasTrail v t ys → xs ≡ ys
  trail_alone t xs ys one two =
      elim one [
        | inl own ↦ elim two [
          | inl again ↦ sym own.1 ∙ again.1
          | inr other ↦ absurd (own_or_joined t other.0 own.0 other.1 other.2)
        ]
        | inr joined ↦ elim two [
          | inl own ↦ absurd (own_or_joined t joined.0 own.0 joined.1 joined.2)
          | inr other ↦ sym joined.3 ∙ ap (λ (z : Joined). z.trail) (one_joined t joined.0 other.0 joined.1 other.1 joined.2 other.2) ∙ other.3
        ]
      ]

  -- a tag is one of the numbers of the hands that were made
  pub own_within : (1 ≤ v.tag) × (v.tag ≤ v.made)
  own_within =
      let law = end.tags_once (is_it v.tag) in
      let mine = its v.tag v.tag refl in
      let is = range_has v.tag 1 v.made (omega (arith, law, mine)) in
      (is.0, (let less = is.1 in omega (arith, less)))

  pub joined_within : (x : Joined) → Contains v.joined x → (1 ≤ x.tag) × (x.tag ≤ v.made)
  joined_within x inside =
      let law = end.tags_once (is_it x.tag) in
      let theirs : of_tag x.tag x ≡ 1 = its x.tag x.tag refl in
      let least = sum_inside (of_tag x.tag) v.joined x inside in
      let is = range_has x.tag 1 v.made (omega (arith, law, theirs, least)) in
      (is.0, (let less = is.1 in omega (arith, less)))
