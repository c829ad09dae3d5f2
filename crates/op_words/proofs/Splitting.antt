-- The root makes a hand.
use Rattle.std.proofs.Common.{◌≡◌, ◌≢◌, ◌⊎◌, ℕ, suc, ◌+◌, ◌<◌, List, [], ◌∷◌, ◌++◌, length, set, refl, sym, ap, ◌∙◌, subst, inl, inr, arith, Option, Some, None, length-set, length-append}
use Rattle.std.specs.Prelude.{sum_by}
use Rattle.std.specs.List.{range_with_len}
use Rattle.std.proofs.lemmas.Option.{same_Some, none-some}
use Rattle.std.proofs.lemmas.List.Sums.{sum_by_push}
use mathlib.Core.Option.{some}
use lib.ListN.{get_elem?}
use Rattle.atomic_table.specs.Table.{Splits}
use Rattle.atomic_table.proofs.Lists.{at_set}
use Rattle.morph_base.specs.Limits.{most_workers}
use Rattle.morph_base.specs.declared.plan.Plan.{Plan}
use Rattle.interleaving_core.specs.declared.entry.Settling.{Settling}
use Rattle.interleaving_core.specs.Core.{Core}
use Rattle.op_words.specs.declared.trail.View.{View}
use Rattle.op_words.specs.Views.{IsBookedInView, parent, child}
use Rattle.op_words.specs.Rule.{Seats, live, taken, tags, Knows, Lawful, Stays}
use Rattle.op_words.specs.Plays.{staying, going}
use Rattle.op_words.proofs.Rows.{here_long, snoc_cases, not_inside, sum_range_more}
use Rattle.op_words.proofs.Moving.{before_view, sum_kept}

-- only the root's view says how many seats there are
recount : {p : Plan} {cap : ℕ} {c : Core} {n m j : ℕ} {x : View} → j ≢ 0 → Knows p cap c n j x → Knows p cap c m j x
recount other k = record {
  plan = k.plan;
  cap_is = k.cap_is;
  tag = k.tag;
  root = λ e. absurd (other e);
  other = k.other;
  claim = k.claim;
  noted = k.noted;
  trail = k.trail;
  booked = k.booked;
  few = k.few;
  few_joined = k.few_joined;
}

module _ {p : Plan} {cap counters : ℕ} (s : Seats) (lawful : Lawful p cap counters s) (i : ℕ) (v : View)
    (at : get_elem? s.views i ≡ some (Some v)) (root : v.tag ≡ 1) (room : v.made < most_workers) where
  abbrev stays : List (Option View)
  stays = set s.views i (Some (parent v))

  abbrev after : List (Option View)
  after = stays ++ Some (child v) ∷ []

  stays_long : length stays ≡ length s.views
  stays_long = length-set s.views i (Some (parent v))

  long : length after ≡ length s.views + 1
  long = length-append stays (Some (child v) ∷ []) ∙ ap (λ (n : ℕ). n + 1) stays_long

  mine : Knows p cap lawful.core (length s.views) i v
  mine = lawful.hands i v at

  first : i ≡ 0
  first = let a = mine.tag in omega (arith, a, root)

  made_is : v.made ≡ length s.views
  made_is = mine.root first

  some_seat : 0 < length s.views
  some_seat = let lt = here_long s.views i (Some v) at in omega (arith, lt)

  -- a sum that the child adds n to, and the root m
  sum_after : (f : View → ℕ) → f (parent v) ≡ f v → sum_by (live f) after ≡ sum_by (live f) s.views + f (child v)
  sum_after f same = sum_by_push (live f) stays (Some (child v)) ∙ ap (λ (n : ℕ). n + f (child v)) (sum_kept s.views i v (parent v) at f same)

  sum_none : (f : View → ℕ) → f (parent v) ≡ f v → f (child v) ≡ 0 → sum_by (live f) after ≡ sum_by (live f) s.views
  sum_none f same none = let a = sum_after f same in omega (arith, a, none)

  view_after : (j : ℕ) (x : View) → get_elem? after j ≡ some (Some x) → (((j ≡ i) × (parent v ≡ x)) ⊎ ((j ≢ i) × (get_elem? s.views j ≡ some (Some x)))) ⊎ ((j ≡ length s.views) × (child v ≡ x))
  view_after j x is =
      elim (snoc_cases stays (Some (child v)) (Some x) j is) [
        | inl old ↦ inl (before_view s.views i v (parent v) at j x old)
        | inr new ↦ inr (new.0 ∙ stays_long, same_Some (child v) x new.1)
      ]

  spent_after : (j : ℕ) → get_elem? after j ≡ some None → lawful.core.claim (j + 1) ≡ None
  spent_after j is =
      elim (snoc_cases stays (Some (child v)) None j is) [
        | inl old ↦
            elim (at_set s.views i j (Some (parent v)) None old) [
              | inl here ↦ absurd (none-some (parent v) (sym here.1))
              | inr other ↦ lawful.spent j other.1
            ]
        | inr new ↦ absurd (none-some (child v) (sym new.1))
      ]

  booked_parent : (x : Settling) → IsBookedInView v x → IsBookedInView (parent v) x
  booked_parent x is =
      elim is [
        | inl own ↦ inl own
        | inr other ↦ inr (record { of_tag = other.of_tag; inside = other.inside; tag_is = other.tag_is; settled = other.settled })
      ]

  knows_parent : Knows p cap lawful.core (length s.views + 1) i (parent v)
  knows_parent = record {
    plan = mine.plan;
    cap_is = mine.cap_is;
    tag = mine.tag;
    root = λ e. ap (λ (n : ℕ). n + 1) made_is;
    other = mine.other;
    claim = mine.claim;
    noted = record { notes = mine.noted.notes; records = mine.noted.records; in_plan = mine.noted.in_plan; decisions = mine.noted.decisions };
    trail = record { each = mine.trail.each };
    booked = λ x inside. booked_parent x (mine.booked x inside);
    few = mine.few;
    few_joined = mine.few_joined;
  }

  knows_child : Knows p cap lawful.core (length s.views + 1) (length s.views) (child v)
  knows_child = record {
    plan = mine.plan;
    cap_is = mine.cap_is;
    tag = ap (λ (n : ℕ). n + 1) made_is;
    root = λ e. absurd (omega (arith, e, some_seat));
    other = λ n. refl;
    claim = lawful.nobody (length s.views + 1) (omega arith);
    noted = record { notes = mine.noted.notes; records = λ r inside. absurd (not_inside r inside); in_plan = λ r inside. absurd (not_inside r inside); decisions = mine.noted.decisions };
    trail = record { each = λ t inside. absurd (not_inside t inside) };
    booked = λ x inside. absurd (not_inside x inside);
    few = λ k. omega arith;
    few_joined = λ k. omega arith;
  }

  two : length after ≢ 1
  two e = omega (arith, e, long, some_seat)

  pub split_stays : Stays p cap counters s lawful (record { words = s.words; homes = s.homes; views = after })
  split_stays = record {
    next = record {
      valid = lawful.valid;
      small = lawful.small;
      core = lawful.core;
      history = lawful.history;
      run = lawful.run;
      sound = lawful.sound;
      shows = lawful.shows;
      hands = λ j x is. subst (λ n. Knows p cap lawful.core n j x) (sym long) (knows_at j x (view_after j x is));
      spent = spent_after;
      nobody = λ t more. lawful.nobody t (omega (arith, more, long));
      no_worker = lawful.no_worker;
      most = omega (arith, long, room, made_is);
      sums = record {
        published = λ h. sum_none (λ (x : View). sum_by h x.published) refl refl ∙ lawful.sums.published h;
        settlings = λ h. sum_none (λ (x : View). sum_by h x.settlings) refl refl ∙ lawful.sums.settlings h;
        events = λ h. sum_none (λ (x : View). sum_by h x.events) refl refl ∙ lawful.sums.events h;
        tags_are = λ h.
            let a = sum_after (tags h) refl in
            let b = lawful.sums.tags_are h in
            let more = sum_range_more h 1 (length s.views) in
            let tag : h (v.made + 1) ≡ h (1 + length s.views) = ap h (let m = made_is in omega (arith, m)) in
            omega (arith, a, b, more, tag) ∙ ap (λ (n : ℕ). sum_by h (range_with_len 1 n)) (one_more (length s.views) ∙ sym long);
      };
      numbers = record { each = λ k below h. sum_none (taken k h) refl refl ∙ lawful.numbers.each k below h };
      alone = λ single x is. absurd (two single);
      only = λ single x is. absurd (two single);
    };
    core_is = refl;
    history_is = refl;
  }
    where
      one_more : (n : ℕ) → suc n ≡ n + 1
      one_more n = omega arith

      knows_at : (j : ℕ) (x : View) → (((j ≡ i) × (parent v ≡ x)) ⊎ ((j ≢ i) × (get_elem? s.views j ≡ some (Some x)))) ⊎ ((j ≡ length s.views) × (child v ≡ x))
          → Knows p cap lawful.core (length s.views + 1) j x
      knows_at j x which =
          elim which [
            | inl old ↦
                elim old [
                  | inl here ↦ subst (λ k. Knows p cap lawful.core (length s.views + 1) k x) (sym here.0) (subst (Knows p cap lawful.core (length s.views + 1) i) here.1 knows_parent)
                  | inr other ↦ recount (λ e. other.0 (e ∙ sym first)) (lawful.hands j x other.1)
                ]
            | inr new ↦ subst (λ k. Knows p cap lawful.core (length s.views + 1) k x) (sym new.0) (subst (Knows p cap lawful.core (length s.views + 1) (length s.views)) new.1 knows_child)
          ]

module _ {p : Plan} {cap counters : ℕ} where
  pub allows_split : (i : ℕ) (a : Option View) (v : View) → a ≡ Some v → v.tag ≡ 1 → v.made < most_workers → Splits (Lawful p cap counters) i a (staying a) (going a)
  allows_split i a v is root room s lawful at =
      subst (λ x. Lawful p cap counters (record { words = s.words; homes = s.homes; views = set s.views i (staying x) ++ going x ∷ [] })) (sym is)
      (split_stays s lawful i v (at ∙ ap some is) root room).next
