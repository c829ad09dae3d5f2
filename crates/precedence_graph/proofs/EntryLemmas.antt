-- Operations that were entered, walked from one at a place to the one before it, and one operation more.
use Rattle.std.proofs.Common.{◌≡◌, ℕ, ◌+◌, ◌<◌, ◌≤◌, Bool, true, false, cond, eqb, List, [], ◌∷◌, ◌++◌, length, set, refl, sym, ap, subst, ◌∙◌, add-one, eq-eqb, inl, inr, arith}
use Rattle.std.proofs.lemmas.Bool.{cases_lt, eqb-true, eqb-false}
use Rattle.std.proofs.lemmas.List.{get_or_append_left, get_or_past, get_or_push, length-set, length_push}
use Rattle.morph_base.specs.declared.key.Key.{Key}
use Rattle.morph_base.specs.declared.plan.Origin.TheVariants.{Op as Written}
use Rattle.morph_base.specs.Links.{last_passing, AreEnds, AreLinked}
use Rattle.morph_base.specs.Operations.{same_key}
use Rattle.morph_base.proofs.KeyLaws.{same_key-true}
use Rattle.morph_base.proofs.LinkLaws.{last_passing-passes, last_passing-last_passing, last_passing-next, ends-next, linked-next}
use Rattle.precedence_graph.specs.declared.writers.Entry.{Entry}
use Rattle.precedence_graph.specs.Entries.{place_of, no_entry, source_before, entry_at, changes, place_among, before_in}

-- whether an operation is at a place
abbrev pub is_at : List Entry → ℕ → ℕ → ℕ → Bool
is_at entries places place o = eqb (place_among entries places o) place

-- ---- the walk from an operation at a place to the one before it
module _ (entries : List Entry) (places : ℕ) (key : Key) where
  abbrev pub place : ℕ
  place = place_of key places

  -- the operations that change the key are at its place
  at_its_place : (o : ℕ) → changes entries key o ≡ true → is_at entries places place o ≡ true
  at_its_place o is =
      eq-eqb (place_of (entry_at entries o).key places) place (ap (λ k. place_of k places) (same_key-true (entry_at entries o).key key is))

  pub walk : (n : ℕ) → last_passing (changes entries key) n ≡ last_passing (changes entries key) (last_passing (is_at entries places place) n)
  walk n = last_passing-last_passing (changes entries key) (is_at entries places place) at_its_place n

  pub walk_at : (n m : ℕ) → last_passing (is_at entries places place) n ≡ m + 1 → place_of (entry_at entries m).key places ≡ place
  walk_at n m is =
      eqb-true (place_of (entry_at entries m).key places) place (last_passing-passes (is_at entries places place) n m is)

  pub before_is : AreLinked (place_among entries places) (length entries) (before_in entries) → (o : ℕ) → o < length entries → place_of (entry_at entries o).key places ≡ place
      → (entry_at entries o).before ≡ last_passing (is_at entries places place) o
  before_is linked o lt there = linked o lt ∙ ap (λ p. last_passing (is_at entries places p) o) there

-- ---- one operation more
module _ (entries : List Entry) (e : Entry) where
  abbrev more : List Entry
  more = entries ++ e ∷ []

  entry_stays : (o : ℕ) → o < length entries → entry_at more o ≡ entry_at entries o
  entry_stays o lt = get_or_append_left entries (e ∷ []) no_entry o lt

  entry_new : entry_at more (length entries) ≡ e
  entry_new = get_or_push entries e no_entry (length entries) refl

  source_of_either : (b : Bool) (n old : ℕ) → source_before (cond b (n + 1) old) ≡ cond b (Written n) (source_before old)
  source_of_either true n old = ap source_before (add-one n)
  source_of_either false n old = refl

  pub source_push : (key : Key) → source_before (last_passing (changes more key) (length more)) ≡ cond (same_key e.key key) (Written (length entries)) (source_before (last_passing (changes entries key) (length entries)))
  source_push key =
      ap (λ n. source_before (last_passing (changes more key) n)) (length_push entries e)
      ∙ ap source_before (last_passing-next (entry_at entries) (entry_at more) (length entries) entry_stays (λ x. same_key x.key key) (same_key e.key key) (ap (λ x. same_key x.key key) entry_new))
      ∙ source_of_either (same_key e.key key) (length entries) (last_passing (changes entries key) (length entries))

  -- a number of each operation: the new one has its own, and the others keep theirs
  pub number_push : (f : Entry → ℕ) (o : ℕ) → f (entry_at more o) ≡ cond (eqb o (length entries)) (f e) (f (entry_at entries o))
  number_push f o = by_test (eqb o (length entries)) refl
    where
      by_test : (b : Bool) → eqb o (length entries) ≡ b → f (entry_at more o) ≡ cond b (f e) (f (entry_at entries o))
      by_test true same = ap f (ap (entry_at more) (eqb-true o (length entries) same) ∙ entry_new)
      by_test false other =
          elim (cases_lt o (length entries)) [
            | inl less ↦ ap f (entry_stays o less)
            | inr past ↦
                let differs : o ≡ length entries → ⊥ = eqb-false o (length entries) other in
                let beyond : length entries + 1 ≤ o = omega arith in
                ap f (get_or_past more o no_entry (omega (arith, length_push entries e)) ∙ sym (get_or_past entries o no_entry past))
          ]

  module _ (places : ℕ) where
    place_stays : (o : ℕ) → o < length entries → place_among more places o ≡ place_among entries places o
    place_stays o lt = ap (λ x. place_of x.key places) (entry_stays o lt)

    place_new : place_among more places (length entries) ≡ place_of e.key places
    place_new = ap (λ x. place_of x.key places) entry_new

    pub linked_push : e.before ≡ last_passing (is_at entries places (place_of e.key places)) (length entries) → AreLinked (place_among entries places) (length entries) (before_in entries)
        → AreLinked (place_among more places) (length more) (before_in more)
    linked_push new linked =
        subst (λ n. AreLinked (place_among more places) n (before_in more)) (sym (length_push entries e))
        (linked-next (place_among entries places) (place_among more places) (length entries) place_stays (before_in entries) (before_in more) (λ o lt. ap (λ x. x.before) (entry_stays o lt))
        (ap (λ x. x.before) entry_new ∙ new ∙ ap (λ q. last_passing (is_at entries places q) (length entries)) (sym place_new)) linked)

  pub ends_push : (ends : List ℕ) (here n : ℕ) → here ≡ place_of e.key (length ends) → n ≡ length entries + 1 → here < length ends
      → AreEnds (place_among entries (length ends)) (length entries) ends → AreEnds (place_among more (length (set ends here n))) (length more) (set ends here n)
  ends_push ends here n is new inside ended =
      subst (λ k. AreEnds (place_among more k) (length more) (set ends here n)) (sym (length-set ends here n))
      (subst (λ m. AreEnds (place_among more (length ends)) m (set ends here n)) (sym (length_push entries e))
      (ends-next (place_among entries (length ends)) (place_among more (length ends)) (length entries) (place_stays (length ends)) ends here n (is ∙ sym (place_new (length ends))) new inside ended))
