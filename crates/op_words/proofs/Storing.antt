-- The place of a record, as the code computes it from what the hand keeps.
use Rattle.std.proofs.Common.{◌≡◌, ℕ, ◌+◌, ◌<◌, ◌≤◌, List, [], ◌∷◌, ◌++◌, length, refl, sym, ap, ◌∙◌, subst, arith, Some}
use Rattle.std.proofs.lemmas.List.{length-take-le, length-take}
use Rattle.std.proofs.lemmas.Option.{same_Some}
use Rattle.morph_base.specs.declared.limits.TheConstants.{READS}
use Rattle.morph_base.specs.declared.plan.Plan.{Plan}
use Rattle.morph_base.specs.OpLists.{places_before}
use Rattle.morph_base.specs.Plans.{IsPlan, op_count, op_at}
use Rattle.interleaving_core.specs.declared.event.CoreEvent.TheVariants.{Fetch}
use Rattle.interleaving_core.specs.Core.{places}
use Rattle.op_words.specs.declared.board.Board.{Board}
use Rattle.op_words.specs.declared.board.Hand.{Hand}
use Rattle.op_words.specs.declared.board.Holding.{Holding}
use Rattle.op_words.specs.declared.trail.View.{View}
use Rattle.op_words.specs.Views.{Holds, fetching}
use Rattle.op_words.specs.Plays.{Sat, IsTold}
use Rattle.op_words.specs.Layout.{record_index}
use Rattle.op_words.specs.Hands.{plan_of, view_of, view_in, held_of, fetched_of, call_on, HasHeldValues, IsHandOf}
use Rattle.op_words.specs.Stepping.{IsPlaceKept}
use Rattle.op_words.proofs.Journaling.{HasNoted}
use Rattle.op_words.proofs.Handing.{kept, kept_step, still, held_parts}

-- an operation reads a few places
pub places_few : (p : Plan) (o : ℕ) → IsPlan p → o < op_count p → places p o ≤ READS
places_few p o valid lt =
    let n = length-take (op_at p o).op.n_params (op_at p o).op.params in
    let few = (valid.numbering.shaped o lt).places in
    omega (arith, n, few)

-- as many values were fetched as the hand counts
pub count_is : (k : Holding) (xs : List ℕ) → HasHeldValues k → fetched_of k ≡ xs → k.count ≡ length xs
count_is k xs fits values =
    let few = fits.count in let len = fits.len in
    let n : length (fetched_of k) ≡ k.count = length-take-le k.count k.values (omega (arith, few, len)) in
    sym n ∙ ap (λ (l : List ℕ). length l) values

module _ (b : Board) (h : Hand) (is : IsHandOf b h) (k : Holding) (some : h.held ≡ Some k) (o a : ℕ) (xs : List ℕ) (holds : Holds (view_of h) o a xs) where
  pub count_kept : k.count ≡ length xs
  count_kept = count_is k xs (is.fits k some) (held_parts h k o a xs (kept is) some holds).2

  pub index_is : (p : Plan) (n before : ℕ) → p ≡ plan_of b → n ≡ op_count p → before ≡ places_before p.ops.items k.op → n + (before + k.count) ≡ record_index (plan_of b) o (length xs)
  index_is p n before plan len front =
      let op = (held_parts h k o a xs (kept is) some holds).0 in let count = count_kept in let q : op_count p ≡ op_count (plan_of b) = ap op_count plan in
      let base : before ≡ places_before (plan_of b).ops.items o = front ∙ ap (λ (r : Plan). places_before r.ops.items k.op) plan ∙ ap (places_before (plan_of b).ops.items) op in
      omega (arith, base, count, q, len)

  -- with a value more
  pub kept_hand : (g : Hand) (m : Holding) (x : ℕ) → g.seat.table_id ≡ h.seat.table_id → g.seat.me ≡ (Some (fetching (record { op = o; attempt = a; values = xs }) x (view_of h)), h.seat.me.1)
      → IsTold (fetching (record { op = o; attempt = a; values = xs }) x (view_of h)) → g.tag ≡ h.tag → g.made ≡ h.made → g.counts ≡ h.counts → HasNoted h.journal g.journal (Fetch k.op k.count h.tag x) → g.held ≡ Some m
      → m.op ≡ k.op → m.attempt ≡ k.attempt → fetched_of m ≡ fetched_of k ++ x ∷ [] → HasHeldValues m → IsPlaceKept (call_on b h g) o a xs x
  kept_hand g m x table me told tag made counts noted held op attempt values fits =
      let u : View = fetching (record { op = o; attempt = a; values = xs }) x (view_of h) in
      let parts = held_parts h k o a xs (kept is) some holds in
      let me_now : g.seat.me ≡ (Some u, []) = me ∙ ap (λ (y : Sat). (Some u, y.1)) is.seat in
      let claim : held_of g.held ≡ u.claim =
      ap held_of held ∙ ap (λ (z : ℕ × ℕ × List ℕ). Some (record { op = z.0; attempt = z.1; values = z.2 })) (λ i. ((op ∙ parts.0) i, (attempt ∙ parts.1) i, (values ∙ ap (λ l. l ++ x ∷ []) parts.2) i)) in
      let noted_so : HasNoted h.journal g.journal (Fetch o (length xs) (view_of h).tag x) =
      subst (HasNoted h.journal g.journal) (ap (λ (z : ℕ × ℕ × ℕ). Fetch z.0 z.1 z.2 x) (λ i. (parts.0 i, count_kept i, is.tag i))) noted in
      record {
        hand = still b h g u is table me_now refl refl
            (kept_step h g u _ (kept is) tag made counts noted_so refl refl refl refl refl refl refl refl refl claim (λ n same. subst HasHeldValues (same_Some m n (sym held ∙ same)) fits)) told;
        view = ap (λ (y : Sat). view_in y.0) me_now;
      }
