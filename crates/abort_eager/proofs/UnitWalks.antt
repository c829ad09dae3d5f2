-- Walks of units, a visit after the other.
use Rattle.std.proofs.Common.{◌≡◌, ℕ, ◌+◌, ◌<◌, ◌≤◌, Bool, true, false, List, [], ◌∷◌, length, get_or, drop, refl, sym, ap, ◌∙◌, subst}
use Rattle.std.specs.Prelude.{Some, slice_get, slice_index_or}
use Rattle.std.proofs.lemmas.List.{drop_more, drop_all}
use Rattle.std.proofs.lemmas.Option.{get_or_from_slice_get, slice_get_within}
use Rattle.chain_units.specs.Places.{StandsAt}
use Rattle.op_words.specs.declared.answers.Outcome.{Outcome}
use Rattle.op_eval.specs.declared.answers.Evaluation.{Evaluation}
use Rattle.op_eval.specs.declared.answers.Evaluation.TheVariants.{Evaluated, Blocked, Busy, Already}
use Rattle.abort_eager.specs.Walks.{has_evaluated, VisitsInTurn, WalksUnit}

-- where an operation stands, by its unit and by its place, each of which is known alone
pub stands_there : (units : List (List ℕ)) (u at o : ℕ) → (i : ℕ) × StandsAt units u i o → ((v i : ℕ) → StandsAt units v i o → i ≡ at) → StandsAt units u at o
stands_there units u at o by_unit alone = subst (λ i. StandsAt units u i o) (alone u by_unit.0 by_unit.1) by_unit.1

pub not_evaluated : (r : Evaluation) → ((a : ℕ) (x : Outcome) → r ≡ Evaluated a x → ⊥) → has_evaluated r ≡ false
not_evaluated (Evaluated a x) other = absurd (other a x refl)
not_evaluated (Blocked s w) other = refl
not_evaluated (Busy w) other = refl
not_evaluated (Already w) other = refl

-- what is left of a list from an element's place on
pub drop_at : (ops : List ℕ) (at o : ℕ) → slice_get ops at ≡ Some o → drop at ops ≡ o ∷ drop (at + 1) ops
drop_at ops at o stands = drop_more ops at o (slice_get_within ops at o stands) ∙ ap (λ x. x ∷ drop (at + 1) ops) (get_or_from_slice_get ops at o o stands)

module _ {W : Type 0} (visits : ℕ → W → W → Evaluation → Type 0) where
  -- a walk is at its end where a visit evaluated nothing
  stays : (os : List ℕ) (a : W) → VisitsInTurn visits false os a a
  stays [] a = refl
  stays (o ∷ os) a = refl

  module _ (ops : List ℕ) (i : ℕ) (m : W) where
    -- the operation at place i is visited first, and then the others as the answer says
    pub visited_at : (n u : W) (r : Evaluation) (t : Bool) → i < length ops → visits (get_or ops i 0) m n r → has_evaluated r ≡ t → VisitsInTurn visits t (drop (i + 1) ops) n u → VisitsInTurn visits true (drop i ops) m u
    visited_at n u r t lt visited is rest =
        subst (λ os. VisitsInTurn visits true os m u) (sym (drop_more ops i 0 lt)) (n, r, visited, subst (λ s. VisitsInTurn visits s (drop (i + 1) ops) n u) (sym is) rest)

    pub stopped_at : (n : W) (r : Evaluation) → i < length ops → visits (get_or ops i 0) m n r → has_evaluated r ≡ false → VisitsInTurn visits true (drop i ops) m n
    stopped_at n r lt visited is = visited_at n n r false lt visited is (stays (drop (i + 1) ops) n)

    pub none_left : length ops ≤ i → VisitsInTurn visits true (drop i ops) m m
    none_left past = subst (λ os. VisitsInTurn visits true os m m) (sym (drop_all i ops past)) refl

  module _ (units : List (List ℕ)) (o : ℕ) (a b : W) where
    pub unit_walked : (unit at : ℕ) (ops : List ℕ) → ops ≡ slice_index_or units unit [] → StandsAt units unit at o → VisitsInTurn visits true (drop at ops) a b → WalksUnit visits units o a b
    unit_walked unit at ops same stands visited = record { unit = unit; at = at; stands = stands; visited = subst (λ os. VisitsInTurn visits true (drop at os) a b) same visited }

    -- what the first visit makes of a worker, and each other one keeps, the whole walk makes of it
    pub by_walk : (P : W → Type 0) → ((m : W) (r : Evaluation) → visits o a m r → P m) → ((q : ℕ) (m n : W) (r : Evaluation) → P m → visits q m n r → P n) → WalksUnit visits units o a b → P b
    by_walk P first more walks =
        let ops = slice_index_or units walks.unit [] in
        let all = subst (λ os. VisitsInTurn visits true os a b) (drop_at ops walks.at o walks.stands) walks.visited in
        rest (has_evaluated all.1) (drop (walks.at + 1) ops) all.0 (first all.0 all.1 all.2) all.3
      where
        rest : (t : Bool) (os : List ℕ) (m : W) → P m → VisitsInTurn visits t os m b → P b
        rest true [] m is same = subst P (sym same) is
        rest false [] m is same = subst P (sym same) is
        rest false (q ∷ qs) m is same = subst P (sym same) is
        rest true (q ∷ qs) m is all = rest (has_evaluated all.1) qs all.0 (more q m all.0 all.1 is all.2) all.3

-- a walk of visits that each make more of a worker
module _ {W : Type 0} (visits others : ℕ → W → W → Evaluation → Type 0) (is : (o : ℕ) (a b : W) (r : Evaluation) → visits o a b r → others o a b r) where
  in_turn_as : (t : Bool) (os : List ℕ) (a b : W) → VisitsInTurn visits t os a b → VisitsInTurn others t os a b
  in_turn_as true [] a b same = same
  in_turn_as false [] a b same = same
  in_turn_as false (o ∷ os) a b same = same
  in_turn_as true (o ∷ os) a b all = (all.0, all.1, is o a all.0 all.1 all.2, in_turn_as (has_evaluated all.1) os all.0 b all.3)

  pub walks_as : (units : List (List ℕ)) (o : ℕ) (a b : W) → WalksUnit visits units o a b → WalksUnit others units o a b
  walks_as units o a b walks = record { unit = walks.unit; at = walks.at; stands = walks.stands; visited = in_turn_as true (drop walks.at (slice_index_or units walks.unit [])) a b walks.visited }
