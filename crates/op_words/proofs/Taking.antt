-- An addition to a counter keeps the rule, and so does any step on the level word.
use Rattle.std.proofs.Common.{◌≡◌, ◌≢◌, ℕ, suc, ◌+◌, ◌*◌, ◌%◌, ◌^◌, ◌<◌, ◌≤◌, eqb, cond, List, [], ◌∷◌, ◌++◌, length, set, refl, sym, ap, ◌∙◌, subst, inl, inr, arith, Option, Some, None, length-set, get_or-set_same, eq-eqb, ne_eqb}
use Rattle.std.specs.Prelude.{Contains, slice_index, sum_by}
use Rattle.std.specs.List.{range_with_len}
use Rattle.std.proofs.lemmas.Bool.{cases_eq, cases_lt, cond-true, cond-false}
use Rattle.std.proofs.lemmas.Option.{same_Some}
use Rattle.std.proofs.lemmas.List.Sums.{sum_by_push}
use mathlib.Core.Option.{some, none}
use lib.ListN.{get_elem?}
use Rattle.atomic_table.specs.Table.{step, keeps, Allows}
use Rattle.morph_base.specs.declared.plan.Plan.{Plan}
use Rattle.op_words.specs.declared.trail.Joined.{Joined}
use Rattle.op_words.specs.declared.trail.Place.{Place}
use Rattle.op_words.specs.declared.trail.View.{View}
use Rattle.op_words.specs.Views.{IsLone}
use Rattle.op_words.specs.Layout.{Shows, record_index, decision_base, level_index, counter_base}
use Rattle.op_words.specs.Rule.{Seats, live, tags, taken, of_counter, of_joined, one, most_taken, HasNumbers, Knows, Lawful, Stays}
use Rattle.op_words.specs.declared.board.Hand.{Hand}
use Rattle.op_words.specs.Hands.{view_of, held_of}
use Rattle.op_words.specs.Plays.{Sat, IsTold}
use Rattle.op_words.specs.Counting.{place, taking, times, IsNumberTaken, takes, passes}
use Rattle.op_words.proofs.RecordPlaces.{record_before}
use Rattle.op_words.proofs.Rows.{sum_set, sum_has, set_apart}
use Rattle.op_words.proofs.Sizes.{sum_most, sum_inside, single_sum, sum_ones, none_left, sum_below, range_size, sum_above}
use Rattle.op_words.proofs.Handing.{IsKept}
use Rattle.op_words.proofs.Journaling.{journal_same}
use Rattle.op_words.proofs.Moving.{with_view, moved}
use Rattle.op_words.proofs.Telling.{lone_single}

here_counts : (k : ℕ) (h : ℕ → ℕ) (n : ℕ) → of_counter k h (place k n) ≡ h n
here_counts k h n = cond-true (eqb k k) (h n) 0 (eq-eqb k k refl)

else_counts : (k j : ℕ) (h : ℕ → ℕ) (n : ℕ) → k ≢ j → of_counter j h (place k n) ≡ 0
else_counts k j h n other = cond-false (eqb k j) (h n) 0 (ne_eqb k j other)

taken_more : (k j : ℕ) (h : ℕ → ℕ) (n : ℕ) (v : View) → taken j h (taking k n v) ≡ taken j h v + of_counter j h (place k n)
taken_more k j h n v = let r = sum_by_push (of_counter j h) v.places (place k n) in omega (arith, r)

module _ {p : Plan} {cap counters : ℕ} (s : Seats) (lawful : Lawful p cap counters s) where
  abbrev pub counted : ℕ → ℕ
  counted k = slice_index s.words (counter_base p + k)

  -- a hand takes few numbers for each hand in it
  hands_in : (v : View) → tags one v ≡ 1 + length v.joined
  hands_in v = ap (λ (n : ℕ). 1 + n) (sum_ones (λ (x : Joined). one x.tag) v.joined (λ x. refl))

  view_few : (k i : ℕ) (x : Option View) → get_elem? s.views i ≡ some x → live (taken k one) x ≤ most_taken * live (tags one) x
  view_few k i None at = omega arith
  view_few k i (Some v) at = let knows = lawful.hands i v at in let a = knows.few k in let b = knows.few_joined k in let c = hands_in v in omega (arith, a, b, c)

  pub seats : sum_by (live (tags one)) s.views ≡ length s.views
  seats = lawful.sums.tags_are one ∙ range_size 1 (length s.views)

  -- into a root that is the only hand made none was joined
  pub none_joined : (i : ℕ) (v : View) → get_elem? s.views i ≡ some (Some v) → IsLone v → v.joined ≡ []
  none_joined i v at is =
      let l = lone_single s lawful i v at is in
      let root : get_elem? s.views 0 ≡ some (Some v) = subst (λ m. get_elem? s.views m ≡ some (Some v)) l.0 at in
      let sat = single_sum (live (tags one)) s.views (Some v) l.1 root in
      let within = hands_in v in
      none_left v.joined (omega (arith, sat, seats, within, l.1))

  pub counter_small : (k : ℕ) → k < counters → counted k ≤ 2 ^ 63
  counter_small k below =
      let law = lawful.numbers.each k below one in
      let size = range_size 0 (counted k) in
      let few = sum_most (live (taken k one)) (live (tags one)) most_taken s.views (view_few k) in
      let most = lawful.most in
      omega (arith, law, size, few, seats, most)

  module _ (i : ℕ) (v : View) (at : get_elem? s.views i ≡ some (Some v)) (k : ℕ) (below : k < counters) where
    abbrev pub n : ℕ
    n = counted k

    abbrev pub after : List ℕ
    after = set s.words (counter_base p + k) (n + 1)

    inside : counter_base p + k < length s.words
    inside = let l = lawful.shows.long in omega (arith, l, below)

    after_here : slice_index after (counter_base p + k) ≡ n + 1
    after_here = get_or-set_same s.words (counter_base p + k) (n + 1) 0 inside

    after_else : (j : ℕ) → j ≢ counter_base p + k → slice_index after j ≡ slice_index s.words j
    after_else j other = set_apart s.words (counter_base p + k) j (n + 1) other

    pub shows_taken : Shows p counters lawful.core after
    shows_taken = record {
      long = length-set s.words (counter_base p + k) (n + 1) ∙ lawful.shows.long;
      ops = λ o lt. after_else o (λ e. omega (arith, lt, e)) ∙ lawful.shows.ops o lt;
      records = λ o j lt few. after_else (record_index p o j) (λ e. let b = record_before p o j lt few in omega (arith, b, e)) ∙ lawful.shows.records o j lt few;
      decisions = λ d lt. after_else (decision_base p + d) (λ e. omega (arith, lt, e)) ∙ lawful.shows.decisions d lt;
    }

    numbers_taken : HasNumbers p counters after (set s.views i (Some (taking k n v)))
    numbers_taken = record {
      each = λ j lt h.
          let grown = sum_set (live (taken j h)) s.views i (Some v) (Some (taking k n v)) at in
          let more = taken_more k j h n v in
          let law = lawful.numbers.each j lt h in
          elim (cases_eq k j) [
            | inl same ↦ here_law j h same grown more law
            | inr other ↦ else_law j h other grown more law
          ];
    }
      where
        here_law : (j : ℕ) (h : ℕ → ℕ) → k ≡ j
            → sum_by (live (taken j h)) (set s.views i (Some (taking k n v))) + taken j h v ≡ sum_by (live (taken j h)) s.views + taken j h (taking k n v)
            → taken j h (taking k n v) ≡ taken j h v + of_counter j h (place k n)
            → sum_by (live (taken j h)) s.views ≡ sum_by h (range_with_len 0 (counted j))
            → sum_by (live (taken j h)) (set s.views i (Some (taking k n v))) ≡ sum_by h (range_with_len 0 (slice_index after (counter_base p + j)))
        here_law j h same grown more law =
            let at_j : slice_index after (counter_base p + j) ≡ suc n = subst (λ m. slice_index after (counter_base p + m) ≡ suc n) same (after_here ∙ omega arith) in
            let new : of_counter j h (place k n) ≡ h n = subst (λ m. of_counter m h (place k n) ≡ h n) same (here_counts k h n) in
            let old : sum_by (live (taken j h)) s.views ≡ sum_by h (range_with_len 0 n) = law ∙ ap (λ (m : ℕ). sum_by h (range_with_len 0 (counted m))) (sym same) in
            let last = sum_below h n in
            omega (arith, grown, more, new, old, last) ∙ ap (λ (m : ℕ). sum_by h (range_with_len 0 m)) (sym at_j)

        else_law : (j : ℕ) (h : ℕ → ℕ) → k ≢ j
            → sum_by (live (taken j h)) (set s.views i (Some (taking k n v))) + taken j h v ≡ sum_by (live (taken j h)) s.views + taken j h (taking k n v)
            → taken j h (taking k n v) ≡ taken j h v + of_counter j h (place k n)
            → sum_by (live (taken j h)) s.views ≡ sum_by h (range_with_len 0 (counted j))
            → sum_by (live (taken j h)) (set s.views i (Some (taking k n v))) ≡ sum_by h (range_with_len 0 (slice_index after (counter_base p + j)))
        else_law j h other grown more law =
            let at_j : slice_index after (counter_base p + j) ≡ counted j = after_else (counter_base p + j) (λ e. other (omega (arith, e))) in
            let new = else_counts k j h n other in
            omega (arith, grown, more, new, law) ∙ ap (λ (m : ℕ). sum_by h (range_with_len 0 m)) (sym at_j)

    knows_taken : times k v.places < most_taken → Knows p cap lawful.core (length s.views) i (taking k n v)
    knows_taken few = record {
      plan = knows.plan;
      cap_is = knows.cap_is;
      tag = knows.tag;
      root = knows.root;
      other = knows.other;
      claim = knows.claim;
      noted = record { notes = knows.noted.notes; records = knows.noted.records; in_plan = knows.noted.in_plan; decisions = knows.noted.decisions };
      trail = record { each = knows.trail.each };
      booked = λ x inside. elim (knows.booked x inside) [ inl own ↦ inl own | inr other ↦ inr (record { of_tag = other.of_tag; inside = other.inside; tag_is = other.tag_is; settled = other.settled }) ];
      few = λ j.
          let more = sum_by_push (of_counter j one) v.places (place k n) in
          elim (cases_eq k j) [
            | inl same ↦ here j same more
            | inr other ↦ let new = else_counts k j one n other in let before = knows.few j in omega (arith, more, new, before)
          ];
      few_joined = knows.few_joined;
    }
      where
        knows : Knows p cap lawful.core (length s.views) i v
        knows = lawful.hands i v at

        here : (j : ℕ) → k ≡ j → sum_by (of_counter j one) (v.places ++ place k n ∷ []) ≡ sum_by (of_counter j one) v.places + of_counter j one (place k n)
            → sum_by (of_counter j one) (v.places ++ place k n ∷ []) ≤ most_taken
        here j same more =
            let new : of_counter j one (place k n) ≡ 1 = subst (λ m. of_counter m one (place k n) ≡ 1) same (here_counts k one n) in
            let before : sum_by (of_counter j one) v.places < most_taken = subst (λ m. sum_by (of_counter m one) v.places < most_taken) same few in
            omega (arith, more, new, before)

    pub taken_stays : times k v.places < most_taken → Stays p cap counters s lawful (with_view after s i (taking k n v))
    taken_stays few =
        moved s lawful i v (taking k n v) at after (record { tag = refl; published = refl; settlings = refl; events = refl; joined = refl }) shows_taken numbers_taken (knows_taken few)
        (λ single first. record { each = (lawful.alone single v (subst (λ m. get_elem? s.views m ≡ some (Some v)) first at)).each })

    -- the number is above those that the hand took, and a lone root takes them from 0 on
    pub takes_so : IsNumberTaken k n v
    takes_so = record {
      rises = λ x found same.
          elim (cases_lt x.number n) [
            | inl lt ↦ lt
            | inr ge ↦ absurd (too_high x found same ge)
          ];
      lone = λ is.
          let l = lone_single s lawful i v at is in
          let root : get_elem? s.views 0 ≡ some (Some v) = subst (λ m. get_elem? s.views m ≡ some (Some v)) l.0 at in
          let all = single_sum (live (taken k one)) s.views (Some v) l.1 root in
          let law = lawful.numbers.each k below one in
          let none : v.joined ≡ [] = none_joined i v at is in
          let left : sum_by (of_joined k one) v.joined ≡ 0 = ap (sum_by (of_joined k one)) none in
          let size = range_size 0 n in
          omega (arith, all, law, left, size);
    }
      where
        is_it : ℕ → ℕ → ℕ
        is_it m a = cond (eqb a m) 1 0

        too_high : (x : Place) → Contains v.places x → x.counter ≡ k → n ≤ x.number → ⊥
        too_high x found same ge =
            let h : ℕ → ℕ = is_it x.number in
            let one_is : of_counter k h x ≡ 1 = cond-true (eqb x.counter k) (h x.number) 0 (eq-eqb x.counter k same) ∙ cond-true (eqb x.number x.number) 1 0 (eq-eqb x.number x.number refl) in
            let own = sum_inside (of_counter k h) v.places x found in
            let all = sum_has (live (taken k h)) s.views i (Some v) at in
            let law = lawful.numbers.each k below h in
            let none = sum_above h n (λ a lt. cond-false (eqb a x.number) 1 0 (ne_eqb a x.number (λ e. omega (arith, lt, ge, e)))) in
            omega (arith, one_is, own, all, law, none)

wraps : (m : ℕ) → m ≤ 2 ^ 63 → (m + 1) % 2 ^ 64 ≡ m + 1
wraps m le = omega (arith, le)

module _ {p : Plan} {cap counters : ℕ} where
  pub allows_take : (slots id : ℕ) (me : Sat) (k : ℕ) (v : View) → me.0 ≡ Some v → k < counters → times k v.places < most_taken
      → Allows (Lawful p cap counters) slots id me (counter_base p + k) (λ n. (n + 1) % 2 ^ 64) (takes (step slots (counter_base p + k) 1 0 none) me)
  allows_take slots id me k v is below few s lawful homes at small =
      let there : get_elem? s.views id ≡ some (Some v) = at ∙ ap some is in
      let m : ℕ = slice_index s.words (counter_base p + k) in (
        Some (taking k m v),
        keeps,
        tt,
        subst (λ b. Lawful p cap counters (record { words = set s.words (counter_base p + k) b; homes = s.homes; views = set s.views id (Some (taking k m v)) })) (sym (wraps m (counter_small s lawful k below))) ((taken_stays s lawful id v there k below few).next),
        tells s lawful there,
      )
    where
      tells : (s : Seats) (lawful : Lawful p cap counters s) → get_elem? s.views id ≡ some (Some v)
          → takes (step slots (counter_base p + k) 1 0 none) me (slice_index s.words (counter_base p + k)) (Some (taking k (slice_index s.words (counter_base p + k)) v), me.1)
      tells s lawful there x same j index =
          let e : v ≡ x = same_Some v x (sym is ∙ same) in
          let plan : x.plan.value ≡ p = ap (λ (y : View). y.plan.value) (sym e) ∙ (lawful.hands id v there).plan in
          let number : k ≡ j = omega (arith, index, ap counter_base plan) in
          let m : ℕ = slice_index s.words (counter_base p + k) in
          (subst (λ i. IsNumberTaken i m x) number (subst (IsNumberTaken k m) e (takes_so s lawful id v there k below)), ap (λ (y : View). (Some (taking k m y), me.1)) e ∙ ap (λ (i : ℕ). (Some (taking i m x), me.1)) number)

-- what is told of a view does not speak of numbers taken
pub taking_told : (k n : ℕ) (v : View) → IsTold v → IsTold (taking k n v)
taking_told k n v told = record {
  agree = told.agree;
  noted = record { each = told.noted.each };
  done = λ is. let d = told.done (record { root = is.root; alone = is.alone }) in record { core = d.core; run = d.run; present = record { each = d.present.each } };
}

pub taking_kept : (h g : Hand) (k n : ℕ) → IsKept h (view_of h) → g.tag ≡ h.tag → g.made ≡ h.made → g.held ≡ h.held → g.counts ≡ h.counts → g.journal ≡ h.journal → IsKept g (taking k n (view_of h))
taking_kept h g k n is tag made held counts journal = record {
  worker = is.worker;
  counted = is.counted;
  tag = tag ∙ is.tag;
  made = made ∙ is.made;
  held = ap held_of held ∙ is.held;
  fits = λ x e. is.fits x (sym held ∙ e);
  counts = counts ∙ is.counts;
  journal = journal_same (taking k n (view_of h)) is.journal journal refl (λ none. none) refl refl;
}

-- ---- the level word

module _ {p : Plan} {cap counters : ℕ} where
  module _ (s : Seats) (lawful : Lawful p cap counters s) (i : ℕ) (v : View) (at : get_elem? s.views i ≡ some (Some v)) (a : ℕ) where
    level : ℕ
    level = level_index p

    pub shows_level : Shows p counters lawful.core (set s.words (level_index p) a)
    shows_level = record {
      long = length-set s.words (level_index p) a ∙ lawful.shows.long;
      ops = λ o lt. set_apart s.words (level_index p) o a (λ e. omega (arith, lt, e)) ∙ lawful.shows.ops o lt;
      records = λ o j lt few. set_apart s.words (level_index p) (record_index p o j) a (λ e. let b = record_before p o j lt few in omega (arith, b, e)) ∙ lawful.shows.records o j lt few;
      decisions = λ d lt. set_apart s.words (level_index p) (decision_base p + d) a (λ e. omega (arith, lt, e)) ∙ lawful.shows.decisions d lt;
    }

    numbers_level : HasNumbers p counters (set s.words (level_index p) a) (set s.views i (Some v))
    numbers_level = record {
      each = λ k below h.
          let same = sum_set (live (taken k h)) s.views i (Some v) (Some v) at in
          let law = lawful.numbers.each k below h in
          omega (arith, same, law) ∙ ap (λ (n : ℕ). sum_by h (range_with_len 0 n)) (sym (set_apart s.words (level_index p) (counter_base p + k) a (λ e. omega (arith, e))));
    }

    pub level_stays : Stays p cap counters s lawful (with_view (set s.words (level_index p) a) s i v)
    level_stays =
        moved s lawful i v v at (set s.words (level_index p) a) (record { tag = refl; published = refl; settlings = refl; events = refl; joined = refl }) shows_level numbers_level (lawful.hands i v at)
        (λ single first. lawful.alone single v (subst (λ m. get_elem? s.views m ≡ some (Some v)) first at))

  -- whatever becomes of the level word
  pub allows_level : (slots id : ℕ) (me : Sat) (v : View) (f : ℕ → ℕ) (a b : ℕ) → me.0 ≡ Some v
      → Allows (Lawful p cap counters) slots id me (level_index p) f (passes (step slots (level_index p) a b none) me)
  allows_level slots id me v f a b is s lawful homes at small =
      (me.0, keeps, tt, subst (λ (x : Option View). Lawful p cap counters (record { words = set s.words (level_index p) (f (slice_index s.words (level_index p))); homes = s.homes; views = set s.views id x })) (sym is) (level_stays s lawful id v (at ∙ ap some is) (f (slice_index s.words (level_index p)))).next, refl)
