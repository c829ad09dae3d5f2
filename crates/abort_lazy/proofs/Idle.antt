-- What the root's view has after idle workers' hands were joined into it.
use Rattle.std.proofs.Common.{◌≡◌, ◌⊎◌, ℕ, zero, suc, ◌+◌, ◌<◌, ◌≤◌, ◌-◌, cond, eqb, List, [], ◌∷◌, ◌++◌, append-nil, append_assoc, length, map, replicate, refl, sym, ap, ◌∙◌, subst, inl, inr, arith}
use Rattle.std.specs.Prelude.{Contains, All, slice_index_or, sum_by}
use Rattle.std.proofs.lemmas.Bool.{cases_lt}
use Rattle.std.proofs.lemmas.List.{get_or-append_right, get_or-replicate, get_or_append_left, length-append, length-replicate, map-append, replicate_more}
use Rattle.std.proofs.lemmas.List.Elements.{Contains-append_left, Contains-push}
use Rattle.std.proofs.lemmas.List.Sums.{sum_by-append, sum_by-cons, sum_by_push}
use Rattle.morph_base.specs.Contents.{Contents}
use Rattle.morph_base.specs.declared.plan.Plan.{Plan}
use Rattle.interleaving_core.specs.Core.{Core}
use Rattle.op_words.specs.declared.trail.Item.{Item}
use Rattle.op_words.specs.declared.trail.Joined.{Joined}
use Rattle.op_words.specs.declared.trail.View.{View}
use Rattle.op_words.specs.Closing.{HasTrail, IsJoined}
use Rattle.op_words.specs.Rule.{of_joined, taken}
use Rattle.op_words.specs.Views.{child, joined_of}
use Rattle.op_eval.specs.declared.answers.Left.{Left}
use Rattle.op_eval.specs.declared.runner.Runner.{Runner}
use Rattle.abort_lazy.specs.Ended.{AddsEmpty, AreCauses, IsKept, causes_of}
use Rattle.abort_lazy.specs.Runs.{idled, with_idle}

-- ---- what stays

pub idled_none : (v : View) → idled 0 v ≡ v
unfolding idled
idled_none v = refl

pub idled_next : (n : ℕ) (v : View) → idled (n + 1) v ≡ with_idle (idled n v)
unfolding idled
idled_next n v = let same : n + 1 ≡ suc n = omega arith in ap (λ k. idled k v) same

pub idled_tag : (n : ℕ) (v : View) → (idled n v).tag ≡ v.tag
unfolding idled
idled_tag zero v = refl
idled_tag (suc n) v = idled_tag n v

pub idled_room : (n : ℕ) (v : View) → (idled n v).room ≡ v.room
unfolding idled
idled_room zero v = refl
idled_room (suc n) v = idled_room n v

pub idled_trail : (n : ℕ) (v : View) → (idled n v).trail ≡ v.trail
unfolding idled
idled_trail zero v = refl
idled_trail (suc n) v = idled_trail n v

pub idled_places : (n : ℕ) (v : View) → (idled n v).places ≡ v.places
unfolding idled
idled_places zero v = refl
idled_places (suc n) v = idled_places n v

pub idled_joined : (n : ℕ) (v : View) (x : Joined) → Contains v.joined x → Contains (idled n v).joined x
unfolding idled
idled_joined zero v x found = found
idled_joined (suc n) v x found = Contains-append_left (idled n v).joined (joined_of (child (idled n v)) ∷ []) x (idled_joined n v x found)

pub idled_notes : (n : ℕ) (v : View) (t : Item) → Contains v.notes t → Contains (idled n v).notes t
unfolding idled
idled_notes zero v t found = found
idled_notes (suc n) v t found = Contains-append_left (idled n v).notes (idled n v).notes t (idled_notes n v t found)

pub idled_trail_of : (n : ℕ) (v : View) {t : ℕ} {xs : List Item} → HasTrail v t xs → HasTrail (idled n v) t xs
idled_trail_of n v is =
    elim is [
      | inl own ↦ inl (idled_tag n v ∙ own.0, idled_trail n v ∙ own.1)
      | inr other ↦ inr (other.0, idled_joined n v other.0 other.1, other.2, other.3)
    ]

-- they took no numbers
pub idled_taken : (c : ℕ) (weight : ℕ → ℕ) (n : ℕ) (v : View) → taken c weight (idled n v) ≡ taken c weight v
unfolding idled
idled_taken c weight zero v = refl
idled_taken c weight (suc n) v =
    let before = idled_taken c weight n v in
    let joins = sum_by_push (of_joined c weight) (idled n v).joined (joined_of (child (idled n v))) in
    omega (arith, before, joins)

-- ---- what comes

pub idled_made : (n : ℕ) (v : View) → (idled n v).made ≡ v.made + n
unfolding idled
idled_made zero v = omega arith
idled_made (suc n) v = let before = idled_made n v in omega (arith, before)

-- each of them is joined
pub idled_all : (n : ℕ) (v : View) (t : ℕ) → v.made < t → t ≤ v.made + n → IsJoined (idled n v) t
unfolding idled
idled_all zero v t above most = absurd (omega (arith, above, most))
idled_all (suc n) v t above most =
    elim (cases_lt (v.made + n) t) [
      | inl last ↦
          let made = idled_made n v in
          (joined_of (child (idled n v)), Contains-push (idled n v).joined (joined_of (child (idled n v))), omega (arith, last, most, made))
      | inr before ↦
          let is = idled_all n v t above before in
          (is.0, Contains-append_left (idled n v).joined (joined_of (child (idled n v)) ∷ []) is.0 is.1, is.2)
    ]

pub idled_root : (n : ℕ) (v : View) (t : ℕ) → IsJoined v t → IsJoined (idled n v) t
idled_root n v t is = (is.0, idled_joined n v is.0 is.1, is.2)

-- ---- their lists

pub empty_none : (xs : List (Contents Left)) → AddsEmpty 0 xs xs
empty_none xs = record { added = []; all = sym (append-nil xs); empty = refl }

pub empty_more : (n : ℕ) (xs ys zs : List (Contents Left)) (l : Contents Left) → AddsEmpty n xs ys → l.items ≡ [] → zs ≡ ys ++ l ∷ [] → AddsEmpty (n + 1) xs zs
empty_more n xs ys zs l is none more = record {
  added = is.added ++ l ∷ [];
  all = more ∙ ap (λ q. q ++ l ∷ []) is.all ∙ append_assoc xs is.added (l ∷ []);
  empty =
      map-append (λ (q : Contents Left). q.items) is.added (l ∷ []) ∙ ap (λ q. q ++ l.items ∷ []) is.empty ∙ ap (λ q. replicate n [] ++ q ∷ []) none
      ∙ replicate_more n [];
}

pub lists_are : (n : ℕ) (rs : List Runner) (left : List (Contents Left)) → AddsEmpty n (map (λ r. r.kept) rs) left
    → map (λ (l : Contents Left). l.items) left ≡ map (λ (l : Contents Left). l.items) (map (λ r. r.kept) rs) ++ replicate n []
lists_are n rs left kept =
    ap (map (λ (l : Contents Left). l.items)) kept.all ∙ map-append (λ (l : Contents Left). l.items) (map (λ r. r.kept) rs) kept.added
    ∙ ap (λ q. map (λ (l : Contents Left). l.items) (map (λ r. r.kept) rs) ++ q) kept.empty

-- no causes stand in them
none_of : (i n : ℕ) → causes_of i (replicate n []) ≡ 0
none_of i zero = refl
none_of i (suc n) =
    let rest = none_of i n in
    let first = sum_by-cons (λ (list : List Left). sum_by (λ (x : Left). cond (eqb x.event i) 1 0) list) [] (replicate n []) in
    omega (arith, rest, first)

module _ (p : Plan) (c : Core) (v : View) (lists : List (List Left)) (n : ℕ) (are : AreCauses p c v lists) where
  same_causes : (i : ℕ) → causes_of i (lists ++ replicate n []) ≡ causes_of i lists
  same_causes i =
      let parts = sum_by-append (λ (list : List Left). sum_by (λ (x : Left). cond (eqb x.event i) 1 0) list) lists (replicate n []) in
      let none = none_of i n in
      omega (arith, parts, none)

  each_kept : (k : ℕ) (d : List Left) → k < length (lists ++ replicate n []) → (x : (k < length lists) ⊎ (length lists ≤ k)) → All (IsKept p c v (k + 1)) (slice_index_or (lists ++ replicate n []) k d)
  each_kept k d lt (inl before) = subst (All (IsKept p c v (k + 1))) (sym (get_or_append_left lists (replicate n []) d k before)) (are.each k d before)
  each_kept k d lt (inr after) =
      let long = length-append lists (replicate n []) in
      let many : length (replicate n (the_none)) ≡ n = length-replicate n [] in
      subst (All (IsKept p c v (k + 1)))
      (sym (get_or-append_right lists (replicate n []) (length lists) k d refl after ∙ get_or-replicate n (k - length lists) [] d (omega (arith, lt, after, long, many)))) none_kept
    where
      the_none : List Left
      the_none = []

      none_kept : All (IsKept p c v (k + 1)) []
      none_kept = λ j e less. absurd (omega (arith, less))

  pub causes_with_none : AreCauses p c v (lists ++ replicate n [])
  causes_with_none = record {
    each = λ k d lt. each_kept k d lt (cases_lt k (length lists));
    once = λ i. let same = same_causes i in let once = are.once i in omega (arith, same, once);
    some = λ o lt open_is. same_causes _ ∙ are.some o lt open_is;
  }
