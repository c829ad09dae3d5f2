-- Places that are entered one after the other.
use Rattle.std.proofs.Common.{◌≡◌, ◌≢◌, ◌⊎◌, ℕ, ◌+◌, ◌<◌, ◌≤◌, List, [], length, map, get_or, set, sym, ◌∙◌, ap, subst, arith, Some, None, inl, inr}
use Rattle.std.specs.Prelude.{slice_get}
use Rattle.std.proofs.lemmas.Bool.{cases_lt, cases_eq}
use Rattle.std.proofs.lemmas.List.{get_or_past, get_or-map, get_or-set_same, get_or-set_other}
use Rattle.std.proofs.lemmas.Option.{slice_get_within, slice_get-get_or}
use Rattle.morph_base.specs.Contents.{Contents}
use Rattle.chain_units.specs.declared.places.Place.{Place}
use Rattle.chain_units.specs.Places.{StandsAt, IsPartition, AreFewUnits, IsIndexed, AreEntered, place_in}

abbrev no_place : Place
no_place = record { unit = 0; at = 0 }

pub none_entered : (units : List (List ℕ)) (places : List Place) → AreEntered units 0 0 places
none_entered units places v k o (inl less) is = absurd (omega arith)
none_entered units places v k o (inr first) is = absurd (omega arith)

-- an operation stands in a unit that there is, inside it
pub stands_within : (units : List (List ℕ)) (u i o : ℕ) → StandsAt units u i o → (u < length units) × (i < length (get_or units u []))
stands_within units u i o is = elim (cases_lt u (length units)) [
  | inl inside ↦ (inside, slice_get_within (get_or units u []) i o is)
  | inr past ↦
      let none : slice_get (get_or units u []) i ≡ None = ap (λ (unit : List ℕ). slice_get unit i) (get_or_past units u [] past) in
      absurd (cc)
]

-- a whole unit is entered
pub unit_entered : (units : List (List ℕ)) (u i : ℕ) (places : List Place) → length (get_or units u []) ≤ i → AreEntered units u i places
    → AreEntered units (u + 1) 0 places
unit_entered units u i places past entered v k o (inr first) is = absurd (omega arith)
unit_entered units u i places past entered v k o (inl less) is = elim (cases_lt v u) [
  | inl before ↦ entered v k o (inl before) is
  | inr after ↦
      let same : v ≡ u = omega arith in
      let within : k < length (get_or units v []) = (stands_within units v k o is).1 in
      let within' : k < length (get_or units u []) = subst (λ w. k < length (get_or units w [])) same within in
      entered v k o (inr (same, omega arith)) is
]

-- one operation more
pub one_entered : (units : List (List ℕ)) (n u i : ℕ) (places : List Place) (ops : List ℕ) → IsPartition units n → n ≡ length places → ops ≡ get_or units u []
    → i < length ops → AreEntered units u i places → AreEntered units u (i + 1) (set places (get_or ops i 0) (record { unit = u; at = i }))
one_entered units n u i places ops partition long unit inside entered v k o before is = by_cases before
  where
    new : ℕ
    new = get_or ops i 0

    here : StandsAt units u i new
    here = ap (λ (xs : List ℕ). slice_get xs i) (sym unit) ∙ slice_get-get_or ops i 0 inside

    place : Place
    place = record { unit = u; at = i }

    earlier : ((v ≡ u) × (k ≡ i) → ⊥) → (v < u) ⊎ ((v ≡ u) × (k < i))
        → (v ≡ (place_in (set places new place) o).unit) × (k ≡ (place_in (set places new place) o).at)
    earlier apart sooner =
        let differs : o ≢ new = λ same. apart (partition.alone v u k i o is (subst (λ x. StandsAt units u i x) (sym same) here)) in
        let kept : place_in (set places new place) o ≡ place_in places o = get_or-set_other places new o place no_place differs in
        let was = entered v k o sooner is in
        (was.0 ∙ ap (λ (q : Place). q.unit) (sym kept), was.1 ∙ ap (λ (q : Place). q.at) (sym kept))

    latest : v ≡ u → k ≡ i → (v ≡ (place_in (set places new place) o).unit) × (k ≡ (place_in (set places new place) o).at)
    latest same same' =
        let there : StandsAt units u i o = subst (λ j. StandsAt units u j o) same' (subst (λ w. StandsAt units w k o) same is) in
        let one : Some o ≡ Some new = sym there ∙ here in
        let equal : o ≡ new = cc in
        let long' : new < length places = omega (arith, partition.inside u i new here) in
        let put : place_in (set places new place) o ≡ place = ap (λ x. place_in (set places new place) x) equal ∙ get_or-set_same places new place no_place long' in
        (same ∙ ap (λ (q : Place). q.unit) (sym put), same' ∙ ap (λ (q : Place). q.at) (sym put))

    by_cases : (v < u) ⊎ ((v ≡ u) × (k < i + 1)) → (v ≡ (place_in (set places new place) o).unit) × (k ≡ (place_in (set places new place) o).at)
    by_cases (inl less) = earlier (λ same. let equal : v ≡ u = same.0 in omega arith) (inl less)
    by_cases (inr both) = elim (cases_eq k i) [
      | inl same ↦ latest both.0 same
      | inr other ↦ earlier (λ same. other same.1) (inr (both.0, omega arith))
    ]

-- all units are entered
pub all_entered : (units : List (List ℕ)) (places : List Place) (u : ℕ) → AreFewUnits units → IsPartition units (length places) → length units ≤ u → AreEntered units u 0 places
    → IsIndexed units places
all_entered units places u few partition past entered = record {
  few = few.unit_numbers;
  stands = λ o inside.
      let at = partition.all o inside in
      let place = entered at.0 at.1 o (inl (omega (arith, (stands_within units at.0 at.1 o at.2).0))) at.2 in
      subst (λ i. StandsAt units (place_in places o).unit i o) place.1 (subst (λ v. StandsAt units v at.1 o) place.0 at.2);
  unit_is = λ v i o is. (entered v i o (inl (omega (arith, (stands_within units v i o is).0))) is).0;
  at_is = λ v i o is. (entered v i o (inl (omega (arith, (stands_within units v i o is).0))) is).1;
}

-- where a place of the list says
pub stands_there : (units units' : List (List ℕ)) (places : List Place) (n o : ℕ) (q : Place) → units ≡ units' → length places ≡ n → o < n → q ≡ place_in places o
    → IsIndexed units places → StandsAt units' q.unit q.at o
stands_there units units' places n o q same long inside is indexed =
    subst (λ us. StandsAt us q.unit q.at o) same (subst (λ (r : Place). StandsAt units r.unit r.at o) (sym is) (indexed.stands o (omega arith)))

-- a unit that is read from its list
pub read_unit : (lists : List (Contents ℕ)) (u : ℕ) (list : Contents ℕ) (ops : List ℕ) → u < length lists → ((d : Contents ℕ) → list ≡ get_or lists u d)
    → ops ≡ list.items → ops ≡ get_or (map (λ unit. unit.items) lists) u []
read_unit lists u list ops inside is items =
    let none : Contents ℕ = record { items = []; room = 0 } in
    items ∙ ap (λ (unit : Contents ℕ). unit.items) (is none) ∙ sym (get_or-map (λ (unit : Contents ℕ). unit.items) lists u none [] inside)

pub unit_stands : (units : List (List ℕ)) (u i : ℕ) (ops : List ℕ) → ops ≡ get_or units u [] → i < length ops → StandsAt units u i (get_or ops i 0)
unit_stands units u i ops unit inside = ap (λ (xs : List ℕ). slice_get xs i) (sym unit) ∙ slice_get-get_or ops i 0 inside

-- an operation of a unit is one of the plan's
pub unit_inside : (units : List (List ℕ)) (many : ℕ) → IsPartition units many → (u : ℕ) (ops : List ℕ) → ops ≡ get_or units u [] → (i : ℕ) → i < length ops → get_or ops i 0 < many
unit_inside units many partition u ops same i lt =
    partition.inside u i (get_or ops i 0) (subst (λ zs. slice_get zs i ≡ Some (get_or ops i 0)) same (slice_get-get_or ops i 0 lt))
