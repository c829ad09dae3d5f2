-- The first target that is left.
use Rattle.std.proofs.Common.{◌≡◌, ◌≢◌, ℕ, suc, ◌+◌, ◌-◌, ◌<◌, ◌≤◌, Bool, true, false, not, [], ◌∷◌, ◌++◌, map, refl, sym, ap, ◌∙◌, subst, arith, eqb, Option, Some, None}
use Rattle.std.specs.Prelude.{filter}
use Rattle.std.specs.List.{range_with_len}
use Rattle.std.proofs.lemmas.Bool.{cond-true, cond-false, eq-eqb, ne_eqb}
use Rattle.morph_base.specs.declared.plan.Plan.{Plan}
use Rattle.morph_base.specs.Numbering.{IsWithin}
use Rattle.morph_base.specs.Plans.{IsPlan, op_count, event_at, event_of}
use Rattle.morph_base.specs.Graphs.{IsValidPlan}
use Rattle.interleaving_core.specs.Core.{places}
use Rattle.abort_eager.specs.declared.answers.Target.{Target}
use Rattle.abort_eager.specs.declared.answers.Target.TheVariants.{Spread, RollBack}
use Rattle.abort_eager.specs.declared.cascade.Cascade.{Cascade}
use Rattle.abort_eager.specs.Targets.{first_source, end_source, place_targets, reader_targets, sibling_targets, left_siblings, left_places, IsSibling, IsCascade}
use Rattle.abort_eager.specs.Finding.{IsReaderOfFirst, IsFirstReader, IsFirstPlace, IsSiblingFrom}
use Rattle.abort_eager.specs.Popping.{IsPopped, Pops, PlaceIsPopped, PlacePops}
use Rattle.abort_eager.proofs.Placing.{readers_first, readers_over, readers_end}
use Rattle.abort_eager.proofs.Reading.{unread, has_place}

-- ---- siblings

pub siblings_end : (o s n : ℕ) → n ≤ s → sibling_targets o s (n - s) ≡ []
unfolding sibling_targets
siblings_end o s n le = let e : n - s ≡ 0 = omega arith in ap (λ m. map (λ t. Spread t) (filter (λ t. not (eqb t o)) (range_with_len s m))) e

pub sibling_over : (o n : ℕ) → o < n → sibling_targets o o (n - o) ≡ sibling_targets o (o + 1) (n - (o + 1))
unfolding sibling_targets
sibling_over o n lt =
    let e : n - o ≡ suc (n - (o + 1)) = omega arith in
    ap (λ m. map (λ t. Spread t) (filter (λ t. not (eqb t o)) (range_with_len o m))) e
    ∙ ap (map (λ t. Spread t)) (cond-false (not (eqb o o)) _ _ (ap not (eq-eqb o o refl)))

sibling_here : (o s n : ℕ) → s < n → s ≢ o → sibling_targets o s (n - s) ≡ Spread s ∷ sibling_targets o (s + 1) (n - (s + 1))
unfolding sibling_targets
sibling_here o s n lt differs =
    let e : n - s ≡ suc (n - (s + 1)) = omega arith in
    ap (λ m. map (λ t. Spread t) (filter (λ t. not (eqb t o)) (range_with_len s m))) e
    ∙ ap (map (λ t. Spread t)) (cond-true (not (eqb s o)) _ _ (ap not (ne_eqb s o differs)))

pub from_op : (o from end : ℕ) → from ≡ o → from < end → IsSiblingFrom o from end (from + 1)
from_op o from end is lt = record {
  low = omega arith;
  high = omega arith;
  other = λ h e. omega arith;
  skipped = subst (λ k. sibling_targets o k (end - k) ≡ sibling_targets o (k + 1) (end - (k + 1))) (sym is) (sibling_over o end (omega arith));
}

-- a source other than the operation is one of its event's, and the operation failed
pub sibling_of : (p : Plan) (o : ℕ) (failed : Bool) (s : ℕ) → IsPlan p → o < op_count p → first_source p o failed ≤ s → s < end_source p o failed → s ≢ o → IsSibling p o failed s
sibling_of p o true s valid lt low high differs =
    let i : ℕ = event_of p o in
    let placed = valid.numbering.placed o lt in
    let inside : IsWithin (event_at p i).first (event_at p i).count s = record { from = low; below = high } in
    let owned = valid.numbering.owned i s placed.0 inside in
    record { failure = refl; in_range = owned.0; another = λ e. differs (sym e); same_event = sym owned.1 }
sibling_of p o false s valid lt low high differs = absurd (differs (omega arith))

module _ (p : Plan) (a : Cascade) (valid : IsPlan p) (is : IsCascade p a) (s : ℕ) (from : IsSiblingFrom a.op a.sibling a.end s) where
  pub popped_sibling : s < a.end
      → IsPopped p a (record { op = a.op; failed = a.failed; first = a.first; end = a.end; sibling = s + 1; reader = a.reader; place = a.place }) (Spread s)
  popped_sibling lt = record {
    left = ap (λ ts. ts ++ left_places p a) (from.skipped ∙ sibling_here a.op s a.end lt (from.other lt));
    inside =
        sibling_of p a.op a.failed s valid is.op_in
        (let first = is.first_is in let begun = is.sibling_from in let low = from.low in omega arith)
        (let end = is.end_is in omega arith)
        (from.other lt);
  }

  pub popped_place : (b : Cascade) (r : Option Target) → a.end ≤ s → PlacePops p a b r → Pops p a b r
  popped_place b r high pops = tell r pops.tells
    where
      none : left_siblings p a ≡ []
      none = from.skipped ∙ siblings_end a.op s a.end high

      none' : left_siblings p b ≡ []
      none' = pops.siblings ∙ none

      tell : (r : Option Target) → PlaceIsPopped p a b r → Pops p a b r
      tell None tells = record { before = ap (λ ts. ts ++ left_places p a) none ∙ tells.before; after = ap (λ ts. ts ++ left_places p b) none' ∙ tells.after }
      tell (Some t) tells = record {
        left = ap (λ ts. ts ++ left_places p a) none ∙ tells.left ∙ ap (λ ts. t ∷ (ts ++ left_places p b)) (sym none');
        inside = tells.inside;
      }

-- ---- places

module _ (p : Plan) (a : Cascade) (valid : IsValidPlan p) (is : IsCascade p a) where
  reader_before : a.reader + 1 ≤ op_count p
  reader_before = let lt = is.reader_in in omega arith

  -- the place is one of the present reader
  pub popped_here : (j : ℕ) → IsFirstPlace p a.first a.end a.reader a.place (Some j)
      → PlacePops p a (record { op = a.op; failed = a.failed; first = a.first; end = a.end; sibling = a.sibling; reader = a.reader; place = j + 1 }) (Some (RollBack a.reader j))
  popped_here j here = record {
    goes = record {
      cascade = record { op_in = is.op_in; first_is = is.first_is; end_is = is.end_is; sibling_from = is.sibling_from; sibling_in = is.sibling_in; reader_in = is.reader_in };
      op = refl;
      failed = refl;
    };
    siblings = refl;
    tells = record {
      left = ap (λ ts. ts ++ reader_targets p a.first a.end (a.reader + 1) (op_count p - (a.reader + 1))) here.2;
      inside = (is.reader_in, here.0);
    };
  }

  -- none is left
  pub popped_none : IsFirstPlace p a.first a.end a.reader a.place None → IsFirstReader p a.first a.end (a.reader + 1) None → PlacePops p a a None
  popped_none here none =
      let skipped = readers_over p a.first a.end (op_count p - (a.reader + 1)) (a.reader + 1) (op_count p) (let le = reader_before in omega arith)
      (λ t low high. unread p a.first a.end t valid.plan (let le = reader_before in omega arith) (λ k from_first below. none t k low (let le = reader_before in omega arith) from_first below)) in
      let ended = readers_end p a.first a.end (a.reader + 1 + (op_count p - (a.reader + 1))) (op_count p) (omega arith) in
      let nothing : left_places p a ≡ [] = ap (λ ts. ts ++ reader_targets p a.first a.end (a.reader + 1) (op_count p - (a.reader + 1))) here ∙ skipped ∙ ended in
      record { goes = record { cascade = is; op = refl; failed = refl }; siblings = refl; tells = record { before = nothing; after = nothing } }

  -- it is one of the next reader
  module _ (q : ℕ) (next : IsReaderOfFirst p a.first a.end (a.reader + 1) q) where
    pub popped_next : (j : ℕ) → IsFirstPlace p a.first a.end a.reader a.place None → IsFirstPlace p a.first a.end q 0 (Some j)
        → PlacePops p a (record { op = a.op; failed = a.failed; first = a.first; end = a.end; sibling = a.sibling; reader = q; place = j + 1 }) (Some (RollBack q j))
    popped_next j here there =
        let low = next.low in
        let high = next.in_range in
        let e : a.reader + 1 + (q - (a.reader + 1)) ≡ q = omega arith in
        let e' : places p q ≡ places p q - 0 = omega arith in
        let skipped = readers_over p a.first a.end (q - (a.reader + 1)) (a.reader + 1) (op_count p) (omega arith)
        (λ t at_least below_q. unread p a.first a.end t valid.plan (omega arith) (λ k from_first below. next.none t k at_least (omega arith) from_first below)) in
        record {
          goes = record {
            cascade = record { op_in = is.op_in; first_is = is.first_is; end_is = is.end_is; sibling_from = is.sibling_from; sibling_in = is.sibling_in; reader_in = high };
            op = refl;
            failed = refl;
          };
          siblings = refl;
          tells = record {
            left =
                ap (λ ts. ts ++ reader_targets p a.first a.end (a.reader + 1) (op_count p - (a.reader + 1))) here
                ∙ skipped
                ∙ ap (λ k. reader_targets p a.first a.end k (op_count p - k)) e
                ∙ readers_first p a.first a.end q (op_count p) high
                ∙ ap (λ m. place_targets p a.first a.end q 0 m ++ reader_targets p a.first a.end (q + 1) (op_count p - (q + 1))) e'
                ∙ ap (λ ts. ts ++ reader_targets p a.first a.end (q + 1) (op_count p - (q + 1))) there.2;
            inside = (high, there.0);
          };
        }

    pub popped_never : IsFirstPlace p a.first a.end q 0 None → ⊥
    popped_never there =
        let e' : places p q ≡ places p q - 0 = omega arith in
        has_place p a.first a.end q valid.plan next.in_range next.source next.from_first next.below_end next.reads (ap (λ m. place_targets p a.first a.end q 0 m) e' ∙ there)
