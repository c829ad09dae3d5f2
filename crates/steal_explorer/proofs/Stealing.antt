-- Steals from one deque after the other.
use Rattle.std.proofs.Common.{◌≡◌, ◌≢◌, ◌⊎◌, ℕ, ◌+◌, ◌<◌, ◌≤◌, Bool, true, false, List, [], ◌∷◌, ◌++◌, length, set, get_or, refl, sym, ap, ◌∙◌, subst, inl, inr, arith}
use Rattle.std.specs.Prelude.{sum_by, slice_index_or}
use Rattle.std.proofs.lemmas.Bool.{cases_eq, false≢true}
use Rattle.std.proofs.lemmas.List.{get_or-set_same, get_or-set_other, get_or_default, length-set}
use Rattle.std.proofs.lemmas.List.Sums.{sum_by-set, sum_by_push}
use Rattle.crossbeam_deque.specs.Handles.{view}
use Rattle.steal_explorer.specs.declared.find.Found.{Found}
use Rattle.steal_explorer.specs.declared.find.Found.TheVariants.{Item, Nothing, Retry}
use Rattle.steal_explorer.specs.declared.deque_rule.Log.{Log}
use Rattle.steal_explorer.specs.Handing.{parts_of, MayBeEmpty}
use Rattle.steal_explorer.specs.Members.{Thief, Ticket, SitsAt, AreSeated, stolen_by}
use Rattle.steal_explorer.specs.Finding.{is_item, or_then, weight_of, Misses, AreMissed, Steals, MayBeAllEmpty, StealsAmong, StealsRound}

pub ticket_part : (t : Thief) (x : Ticket) → SitsAt t x → 0 < (view x).parts
ticket_part t x sits = let e : (view x).parts ≡ 1 = ap parts_of sits.view_is in omega arith

abbrev stolen_of : (ℕ → ℕ) → Ticket → ℕ
stolen_of h x = sum_by h (view x).stolen

-- after steals that gave no item, up to the deque of number k
pub record IsStealing (ts : List Thief) (from to k : ℕ) (retried : Bool) (xs ys : List Ticket) : Type 0 where
  pub above : from ≤ k
  pub within : (k ≤ to) ⊎ (k ≡ from)
  pub begun : k ≡ from → retried ≡ false
  pub len : length ys ≡ length xs
  pub seated : AreSeated ts from to ys
  pub others : (j : ℕ) (x : Ticket) → (j < from) ⊎ (k ≤ j) → slice_index_or ys j x ≡ slice_index_or xs j x
  pub gets : (h : ℕ → ℕ) → stolen_by h ys ≡ stolen_by h xs
  pub missed : AreMissed xs ys from k
  pub empty : retried ≡ false → MayBeAllEmpty ys from k

pub none_stolen : (ts : List Thief) (from to : ℕ) (xs : List Ticket) → AreSeated ts from to xs → IsStealing ts from to from false xs xs
none_stolen ts from to xs seated = record {
  above = omega arith;
  within = inr refl;
  begun = λ _. refl;
  len = refl;
  seated = seated;
  others = λ j x _. refl;
  gets = λ h. refl;
  missed = λ j x low high. absurd (omega arith);
  empty = λ _ j x low high. absurd (omega arith);
}

-- a ticket was lent, with the deque that it is of
pub seat_of : (ts : List Thief) (from to k : ℕ) (xs : List Ticket) → AreSeated ts from to xs → from ≤ k → k < to → (t : Thief) (x : Ticket) → t ≡ slice_index_or ts k t → ((d : Ticket) → x ≡ slice_index_or xs k d) → SitsAt t x
seat_of ts from to k xs seated low high t x t_is x_is =
    subst (SitsAt t) (sym (x_is x)) (subst (λ (u : Thief). SitsAt u (slice_index_or xs k x)) (sym t_is) (seated k t x low high))

module _ (ts : List Thief) (from to k : ℕ) (retried : Bool) (xs ys : List Ticket) (is : IsStealing ts from to k retried xs ys) (lt : k < to) (many : to ≤ length ts) (long : length xs ≡ length ts)
    (t : Thief) (old x' : Ticket) (t_is : t ≡ slice_index_or ts k t) (old_is : (d : Ticket) → old ≡ slice_index_or ys k d) (sits_here : SitsAt t x') where
  abbrev zs : List Ticket
  zs = set ys k x'

  inside : k < length ys
  inside = let a = is.len in omega arith

  sits : (d : Thief) → SitsAt (slice_index_or ts k d) x'
  sits d = subst (λ (u : Thief). SitsAt u x') (t_is ∙ get_or_default ts k t d (omega arith)) sits_here

  here : (x : Ticket) → slice_index_or zs k x ≡ x'
  here x = get_or-set_same ys k x' x inside

  elsewhere : (j : ℕ) (x : Ticket) → j ≢ k → slice_index_or zs j x ≡ slice_index_or ys j x
  elsewhere j x other = get_or-set_other ys k j x' x other

  still_seated : AreSeated ts from to zs
  still_seated j t x low high =
      elim (cases_eq j k) [
        | inl same ↦ subst (λ i. SitsAt (slice_index_or ts i t) (slice_index_or zs i x)) (sym same) (subst (SitsAt (slice_index_or ts k t)) (sym (here x)) (sits t))
        | inr other ↦ subst (SitsAt (slice_index_or ts j t)) (sym (elsewhere j x other)) (is.seated j t x low high)
      ]

  still_long : length zs ≡ length xs
  still_long = length-set ys k x' ∙ is.len

  others_still : (j : ℕ) (x : Ticket) → (j < from) ⊎ (k + 1 ≤ j) → slice_index_or zs j x ≡ slice_index_or xs j x
  others_still j x (inl low) = elsewhere j x (λ e. absurd (let a = is.above in omega arith)) ∙ is.others j x (inl low)
  others_still j x (inr high) = elsewhere j x (λ e. absurd (omega arith)) ∙ is.others j x (inr (omega arith))

  weighs : (h : ℕ → ℕ) (more : ℕ) → stolen_of h x' ≡ stolen_of h old + more → stolen_by h zs ≡ stolen_by h xs + more
  weighs h more rises =
      let a : sum_by (stolen_of h) (set ys k x') + stolen_of h (get_or ys k x') ≡ sum_by (stolen_of h) ys + stolen_of h x' = sum_by-set (stolen_of h) ys k x' x' inside in
      let c = is.gets h in
      let d : stolen_of h old ≡ stolen_of h (get_or ys k x') = ap (stolen_of h) (old_is x') in
      omega arith

  -- it was missed, as those before it were
  missed_still : Misses old x' → AreMissed xs zs from (k + 1)
  missed_still misses j x low high =
      elim (cases_eq j k) [
        | inl same ↦
            subst (λ i. Misses (slice_index_or xs i x) (slice_index_or zs i x)) (sym same)
            (subst (λ (y : Ticket). Misses (slice_index_or xs k x) y) (sym (here x)) (subst (λ (y : Ticket). Misses y x') (old_is x ∙ is.others k x (inr (omega arith))) misses))
        | inr other ↦ subst (λ (y : Ticket). Misses (slice_index_or xs j x) y) (sym (elsewhere j x other)) (is.missed j x low (omega arith))
      ]

  -- it gave an item
  pub stolen_one : (op : ℕ) → Steals (Item op) old x' → AreSeated ts from to zs × StealsAmong from to (Item op) xs zs
  stolen_one op steals = (
    still_seated,
    record {
      len = still_long;
      others = λ j x out. others_still j x (elim out [ inl low ↦ inl low | inr high ↦ inr (omega arith) ]);
      gets = λ h.
          let a : stolen_of h x' ≡ sum_by h ((view old).stolen ++ op ∷ []) = ap (λ (v : Log). sum_by h v.stolen) steals in
          let b : sum_by h ((view old).stolen ++ op ∷ []) ≡ stolen_of h old + h op = sum_by_push h (view old).stolen op in
          weighs h (h op) (omega arith);
      missed = λ none. absurd (false≢true (sym none));
      empty = λ e. absurd (apart e);
    },
  )
    where
      apart : Item op ≡ Nothing → ⊥
      apart e = cc

  same_weight : view x' ≡ view old → (h : ℕ → ℕ) → stolen_by h zs ≡ stolen_by h xs
  same_weight same h =
      let a : stolen_by h zs ≡ stolen_by h xs + 0 = weighs h 0 (let b : stolen_of h x' ≡ stolen_of h old = ap (λ (v : Log). sum_by h v.stolen) same in omega arith) in
      omega arith

  -- it gave none
  pub none_here : Steals Nothing old x' → IsStealing ts from to (k + 1) retried xs zs
  none_here steals = record {
    above = let a = is.above in omega arith;
    within = inl (omega arith);
    begun = λ e. absurd (let a = is.above in omega arith);
    len = still_long;
    seated = still_seated;
    others = others_still;
    gets = same_weight steals.0;
    missed = missed_still (steals.0, inr steals.1);
    empty = λ never j x low high.
        elim (cases_eq j k) [
          | inl same ↦
              subst (λ i. MayBeEmpty (view (slice_index_or zs i x))) (sym same)
              (subst (λ (y : Ticket). MayBeEmpty (view y)) (sym (here x)) (subst MayBeEmpty (sym steals.0) steals.1))
          | inr other ↦ subst (λ (y : Ticket). MayBeEmpty (view y)) (sym (elsewhere j x other)) (is.empty never j x low (omega arith))
        ];
  }

  pub retry_here : Steals Retry old x' → IsStealing ts from to (k + 1) true xs zs
  retry_here steals = record {
    above = let a = is.above in omega arith;
    within = inl (omega arith);
    begun = λ e. absurd (let a = is.above in omega arith);
    len = still_long;
    seated = still_seated;
    others = others_still;
    gets = same_weight steals.0;
    missed = missed_still steals;
    empty = λ never. absurd (apart never);
  }
    where
      apart : true ≡ false → ⊥
      apart e = cc

pub retried_is : (ts : List Thief) (from to k : ℕ) (xs ys : List Ticket) (r s : Bool) → s ≡ r → IsStealing ts from to k r xs ys → IsStealing ts from to k s xs ys
retried_is ts from to k xs ys r s same is = subst (λ t. IsStealing ts from to k t xs ys) (sym same) is

-- ---- all were asked

module _ (ts : List Thief) (from to k : ℕ) (xs ys : List Ticket) (past : to ≤ k) where
  ends_here : (retried : Bool) → IsStealing ts from to k retried xs ys → (k ≤ to) ⊎ ((k ≡ from) × (to < k))
  ends_here retried is = elim is.within [ inl low ↦ inl low | inr begun ↦ at (cases_le k to) begun ]
    where
      cases_le : (a b : ℕ) → (a ≤ b) ⊎ (b < a)
      cases_le a b = grind arith

      at : (k ≤ to) ⊎ (to < k) → k ≡ from → (k ≤ to) ⊎ ((k ≡ from) × (to < k))
      at (inl low) begun = inl low
      at (inr high) begun = inr (begun, high)

  others_all : (retried : Bool) → IsStealing ts from to k retried xs ys → (j : ℕ) (x : Ticket) → (j < from) ⊎ (to ≤ j) → slice_index_or ys j x ≡ slice_index_or xs j x
  others_all retried is j x (inl low) = is.others j x (inl low)
  others_all retried is j x (inr high) =
      elim (ends_here retried is) [
        | inl low ↦ is.others j x (inr (omega arith))
        | inr none ↦ is.others j x (either (none.0))
      ]
    where
      either : k ≡ from → (j < from) ⊎ (k ≤ j)
      either same = grind arith

  pub all_tried : (is : IsStealing ts from to k false xs ys) → StealsAmong from to Nothing xs ys
  all_tried is = record {
    len = is.len;
    others = others_all false is;
    gets = λ h. let e = is.gets h in omega arith;
    missed = λ _ j x low high. is.missed j x low (omega arith);
    empty = λ _ j x low high. is.empty refl j x low (omega arith);
  }

  pub some_retried : (is : IsStealing ts from to k true xs ys) → StealsAmong from to Retry xs ys
  some_retried is = record {
    len = is.len;
    others = others_all true is;
    gets = λ h. let e = is.gets h in omega arith;
    missed = λ _ j x low high. is.missed j x low (omega arith);
    empty = λ e. absurd (apart e);
  }
    where
      apart : Retry ≡ Nothing → ⊥
      apart e = cc

  -- where there was none to ask, nothing was found
  pub no_retry : to ≤ from → (is : IsStealing ts from to k true xs ys) → ⊥
  no_retry none is = elim (ends_here true is) [ inl low ↦ apart (is.begun (let a = is.above in omega arith)) | inr past' ↦ apart (is.begun past'.0) ]
    where
      apart : true ≡ false → ⊥
      apart e = cc

-- ---- a round

-- tickets that did not change stay where they sit
pub keep_seated : (ts : List Thief) (from to : ℕ) (xs ys : List Ticket) → AreSeated ts from to xs → ((j : ℕ) (x : Ticket) → from ≤ j → j < to → slice_index_or ys j x ≡ slice_index_or xs j x) → AreSeated ts from to ys
keep_seated ts from to xs ys seated same j t x low high = subst (SitsAt (slice_index_or ts j t)) (sym (same j x low high)) (seated j t x low high)

-- at the deques above the own one an item was found
pub round_above : (number count : ℕ) (f : Found) (xs ys : List Ticket) → number < count → is_item f ≡ true → StealsAmong (number + 1) count f xs ys → (count ≤ number + 1 → f ≡ Nothing) → StealsRound number count f xs ys
round_above number count f xs ys inside found first none_above = record {
  len = first.len;
  guest = λ x. first.others number x (inl (omega arith));
  gets = first.gets;
  missed = λ none. absurd (false≢true (sym none ∙ found));
  empty = λ none. absurd (item_not f found none);
  alone = λ single. none_above (omega arith);
}
  where
    item_not : (f : Found) → is_item f ≡ true → f ≡ Nothing → ⊥
    item_not (Item x) is e = apart e
      where
        apart : Item x ≡ Nothing → ⊥
        apart e = cc
    item_not Nothing is e = false≢true is
    item_not Retry is e = false≢true is

-- none was found there, and then the deques under it were asked
pub round_below : (number count : ℕ) (f g : Found) (xs ys zs : List Ticket) → number < count → is_item f ≡ false → StealsAmong (number + 1) count f xs ys → StealsAmong 0 number g ys zs
    → (count ≤ number + 1 → f ≡ Nothing) → (number ≤ 0 → g ≡ Nothing) → StealsRound number count (or_then f g) xs zs
round_below number count f g xs ys zs inside none first second none_above none_below = record {
  len = second.len ∙ first.len;
  guest = λ x. second.others number x (inr (omega arith)) ∙ first.others number x (inl (omega arith));
  gets = λ h.
      let a = first.gets h in
      let b = second.gets h in
      let c : weight_of h f ≡ 0 = weightless f none h in
      let d : weight_of h (or_then f g) ≡ weight_of h g = same_weight_of f g none h in
      omega arith;
  missed = λ missed. (
    λ j x low high. subst (λ (y : Ticket). Misses y (slice_index_or zs j x)) (first.others j x (inl (omega arith))) (second.missed (no_item f g missed) j x low high),
    λ j x low high. subst (λ (y : Ticket). Misses (slice_index_or xs j x) y) (sym (second.others j x (inr (omega arith)))) (first.missed none j x low high),
  );
  empty = λ e. (
    second.empty (both_none f g e).1,
    λ j x low high. subst (λ (y : Ticket). MayBeEmpty (view y)) (sym (second.others j x (inr (omega arith)))) (first.empty (both_none f g e).0 j x low high),
  );
  alone = λ single. ap (λ z. or_then z g) (none_above (omega arith)) ∙ ap (or_then Nothing) (none_below (omega arith));
}
  where
    weightless : (f : Found) → is_item f ≡ false → (h : ℕ → ℕ) → weight_of h f ≡ 0
    weightless (Item x) is h = absurd (false≢true (sym is))
    weightless Nothing is h = refl
    weightless Retry is h = refl

    same_weight_of : (f g : Found) → is_item f ≡ false → (h : ℕ → ℕ) → weight_of h (or_then f g) ≡ weight_of h g
    same_weight_of f (Item x) is h = refl
    same_weight_of f Nothing is h = weightless f is h
    same_weight_of f Retry is h = refl

    no_item : (f g : Found) → is_item (or_then f g) ≡ false → is_item g ≡ false
    no_item f (Item x) is = is
    no_item f Nothing is = refl
    no_item f Retry is = refl

    both_none : (f g : Found) → or_then f g ≡ Nothing → (f ≡ Nothing) × (g ≡ Nothing)
    both_none f (Item x) e = absurd (apart e)
      where
        apart : Item x ≡ Nothing → ⊥
        apart e = cc
    both_none f Nothing e = (e, refl)
    both_none f Retry e = absurd (apart e)
      where
        apart : Retry ≡ Nothing → ⊥
        apart e = cc
