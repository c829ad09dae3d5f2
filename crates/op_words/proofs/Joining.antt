-- A hand is joined into the root.
use Rattle.std.proofs.Common.{◌≡◌, ◌≢◌, ◌⊎◌, ℕ, ◌+◌, ◌<◌, ◌≤◌, List, [], ◌∷◌, ◌++◌, length, set, refl, sym, ap, ◌∙◌, subst, inl, inr, arith, Option, Some, None, length-set, length-append}
use Rattle.std.specs.Prelude.{Contains, sum_by}
use Rattle.std.specs.List.{range_with_len}
use Rattle.std.proofs.lemmas.Option.{same_Some, none-some}
use Rattle.std.proofs.lemmas.List.Sums.{sum_by-append, sum_by_push}
use Rattle.std.proofs.lemmas.List.Elements.{Contains-append_left, Contains-append_right, Contains-append_cases}
use mathlib.Core.Option.{some}
use lib.ListN.{get_elem?}
use Rattle.atomic_table.specs.Table.{Joins}
use Rattle.atomic_table.proofs.Lists.{at_set, set_else}
use Rattle.morph_base.specs.Limits.{most_workers}
use Rattle.morph_base.specs.declared.plan.Plan.{Plan}
use Rattle.interleaving_core.specs.declared.entry.Settling.{Settling}
use Rattle.op_words.specs.declared.trail.Joined.{Joined}
use Rattle.op_words.specs.declared.trail.View.{View}
use Rattle.op_words.specs.Views.{IsBookedInView, joined_of, merged}
use Rattle.op_words.specs.Rule.{Seats, live, taken, tags, of_counter, of_joined, one, Knows, Sums, HasNumbers, Lawful, Stays}
use Rattle.op_words.specs.Plays.{both}
use Rattle.op_words.proofs.Rows.{sum_set, here_long, not_inside}

module _ {p : Plan} {cap counters : ℕ} (s : Seats) (lawful : Lawful p cap counters s) (i o : ℕ) (v w : View)
    (at : get_elem? s.views i ≡ some (Some v)) (there : get_elem? s.views o ≡ some (Some w)) (apart : o ≢ i) (root : v.tag ≡ 1) (free : w.claim ≡ None) where
  abbrev after : List (Option View)
  after = set (set s.views i (Some (merged v w))) o None

  long : length after ≡ length s.views
  long = length-set (set s.views i (Some (merged v w))) o None ∙ length-set s.views i (Some (merged v w))

  mine : Knows p cap lawful.core (length s.views) i v
  mine = lawful.hands i v at

  its : Knows p cap lawful.core (length s.views) o w
  its = lawful.hands o w there

  first : i ≡ 0
  first = let a = mine.tag in omega (arith, a, root)

  later : o ≢ 0
  later e = apart (e ∙ sym first)

  there_after : get_elem? (set s.views i (Some (merged v w))) o ≡ some (Some w)
  there_after = set_else s.views i o (Some (merged v w)) apart ∙ there

  sum_joined : (f : View → ℕ) → f (merged v w) ≡ f v + f w → sum_by (live f) after ≡ sum_by (live f) s.views
  sum_joined f both =
      let a = sum_set (live f) s.views i (Some v) (Some (merged v w)) at in
      let b = sum_set (live f) (set s.views i (Some (merged v w))) o (Some w) None there_after in
      omega (arith, a, b, both)

  view_after : (j : ℕ) (x : View) → get_elem? after j ≡ some (Some x) → (j ≢ o) × (((j ≡ i) × (merged v w ≡ x)) ⊎ ((j ≢ i) × (get_elem? s.views j ≡ some (Some x))))
  view_after j x is =
      elim (at_set (set s.views i (Some (merged v w))) o j None (Some x) is) [
        | inl here ↦ absurd (none-some x here.1)
        | inr other ↦ (
          other.0,
          elim (at_set s.views i j (Some (merged v w)) (Some x) other.1) [
            | inl here ↦ inl (here.0, same_Some (merged v w) x here.1)
            | inr old ↦ inr old
          ],
        )
      ]

  spent_after : (j : ℕ) → get_elem? after j ≡ some None → lawful.core.claim (j + 1) ≡ None
  spent_after j is =
      elim (at_set (set s.views i (Some (merged v w))) o j None None is) [
        | inl here ↦ ap (λ (n : ℕ). lawful.core.claim (n + 1)) here.0 ∙ its.claim ∙ free
        | inr other ↦
            elim (at_set s.views i j (Some (merged v w)) None other.1) [
              | inl here ↦ absurd (none-some (merged v w) (sym here.1))
              | inr old ↦ lawful.spent j old.1
            ]
      ]

  left_sum : (k : ℕ) (h : ℕ → ℕ) → sum_by (of_joined k h) (merged v w).joined ≡ sum_by (of_joined k h) v.joined + sum_by (of_counter k h) w.places
  left_sum k h = sum_by_push (of_joined k h) v.joined (joined_of w)

  booked_mine : (x : Settling) → IsBookedInView v x → IsBookedInView (merged v w) x
  booked_mine x is =
      elim is [
        | inl own ↦ inl own
        | inr other ↦ inr (record { of_tag = other.of_tag; inside = Contains-append_left v.joined (joined_of w ∷ []) other.of_tag other.inside; tag_is = other.tag_is; settled = other.settled })
      ]

  booked_its : (x : Settling) → IsBookedInView w x → IsBookedInView (merged v w) x
  booked_its x is =
      elim is [
        | inl own ↦ inr (record { of_tag = joined_of w; inside = Contains-append_right v.joined (joined_of w ∷ []) (joined_of w) (0, omega arith, refl); tag_is = own.0; settled = own.1 })
        | inr other ↦ absurd (not_inside other.of_tag (subst (λ l. Contains l other.of_tag) (its.other later) other.inside))
      ]

  knows_merged : Knows p cap lawful.core (length s.views) i (merged v w)
  knows_merged = record {
    plan = mine.plan;
    cap_is = mine.cap_is;
    tag = mine.tag;
    root = mine.root;
    other = λ n. absurd (n first);
    claim = mine.claim;
    noted = record {
      notes = λ t inside. elim (Contains-append_cases v.notes w.notes t inside) [ inl a ↦ mine.noted.notes t a | inr b ↦ its.noted.notes t b ];
      records = λ t inside. elim (Contains-append_cases v.records w.records t inside) [ inl a ↦ mine.noted.records t a | inr b ↦ its.noted.records t b ];
      in_plan = λ t inside. elim (Contains-append_cases v.records w.records t inside) [ inl a ↦ mine.noted.in_plan t a | inr b ↦ its.noted.in_plan t b ];
      decisions = λ t inside. elim (Contains-append_cases v.decisions w.decisions t inside) [ inl a ↦ mine.noted.decisions t a | inr b ↦ its.noted.decisions t b ];
    };
    trail = record { each = λ t inside. Contains-append_left v.notes w.notes t (mine.trail.each t inside) };
    booked = λ x inside. elim (Contains-append_cases v.settlings w.settlings x inside) [ inl a ↦ booked_mine x (mine.booked x a) | inr b ↦ booked_its x (its.booked x b) ];
    few = mine.few;
    few_joined = λ k.
        let sum = left_sum k one in let a = mine.few_joined k in let b = its.few k in
        let size : length (v.joined ++ joined_of w ∷ []) ≡ length v.joined + 1 = length-append v.joined (joined_of w ∷ []) in
        omega (arith, sum, a, b, size);
  }

  sums_joined : Sums lawful.core lawful.history after
  sums_joined = record {
    published = λ h. sum_joined (λ (x : View). sum_by h x.published) (sum_by-append h v.published w.published) ∙ lawful.sums.published h;
    settlings = λ h. sum_joined (λ (x : View). sum_by h x.settlings) (sum_by-append h v.settlings w.settlings) ∙ lawful.sums.settlings h;
    events = λ h. sum_joined (λ (x : View). sum_by h x.events) (sum_by-append h v.events w.events) ∙ lawful.sums.events h;
    tags_are = λ h.
        let more : sum_by (λ (x : Joined). h x.tag) (v.joined ++ joined_of w ∷ []) ≡ sum_by (λ (x : Joined). h x.tag) v.joined + h w.tag = sum_by_push (λ (x : Joined). h x.tag) v.joined (joined_of w) in
        let none : sum_by (λ (x : Joined). h x.tag) w.joined ≡ 0 = ap (sum_by (λ (x : Joined). h x.tag)) (its.other later) in
        sum_joined (tags h) (omega (arith, more, none)) ∙ lawful.sums.tags_are h ∙ ap (λ (n : ℕ). sum_by h (range_with_len 1 n)) (sym long);
  }

  numbers_joined : HasNumbers p counters s.words after
  numbers_joined = record {
    each = λ k below h.
        let sum = left_sum k h in
        let none : sum_by (of_joined k h) w.joined ≡ 0 = ap (sum_by (of_joined k h)) (its.other later) in
        sum_joined (taken k h) (omega (arith, sum, none)) ∙ lawful.numbers.each k below h;
  }

  two : length after ≢ 1
  two e = let lt = here_long s.views o (Some w) there in later (omega (arith, e, lt, long))

  pub joined_stays : Stays p cap counters s lawful (record { words = s.words; homes = s.homes; views = after })
  joined_stays = record {
    next = record {
      valid = lawful.valid;
      small = lawful.small;
      core = lawful.core;
      history = lawful.history;
      run = lawful.run;
      sound = lawful.sound;
      shows = lawful.shows;
      hands = λ j x is. subst (λ n. Knows p cap lawful.core n j x) (sym long)
          (elim (view_after j x is).1 [
            | inl here ↦ subst (λ k. Knows p cap lawful.core (length s.views) k x) (sym here.0) (subst (Knows p cap lawful.core (length s.views) i) here.1 knows_merged)
            | inr old ↦ lawful.hands j x old.1
          ]);
      spent = spent_after;
      nobody = λ t more. lawful.nobody t (subst (λ n. n < t) long more);
      no_worker = lawful.no_worker;
      most = subst (λ n. n ≤ most_workers) (sym long) lawful.most;
      sums = sums_joined;
      numbers = numbers_joined;
      alone = λ single x is. absurd (two single);
      only = λ single x is. absurd (two single);
    };
    core_is = refl;
    history_is = refl;
  }

module _ {p : Plan} {cap counters : ℕ} where
  pub allows_join : (i o : ℕ) (a b : Option View) (v w : View) → a ≡ Some v → b ≡ Some w → v.tag ≡ 1 → w.claim ≡ None → Joins (Lawful p cap counters) i a o b (both a b) None
  allows_join i o a b v w is its root free s lawful at apart there =
      let old : get_elem? s.views o ≡ some (Some w) = sym (set_else s.views i o (both a b) apart) ∙ there ∙ ap some its in
      subst (λ x. Lawful p cap counters (record { words = s.words; homes = s.homes; views = set (set s.views i x) o None })) (sym (ap (λ (x : Option View). both x b) is ∙ ap (both (Some v)) its))
      (joined_stays s lawful i o v w (at ∙ ap some is) old apart root free).next
