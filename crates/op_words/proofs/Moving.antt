-- One view changes, with or without a step of the machine.
use Rattle.std.proofs.Common.{◌≡◌, ◌≢◌, ◌⊎◌, ℕ, ◌+◌, ◌<◌, ◌≤◌, List, ◌∷◌, ◌++◌, length, set, refl, sym, ap, ◌∙◌, subst, inl, inr, arith, Option, Some, None, length-set}
use Rattle.std.specs.Prelude.{sum_by}
use Rattle.std.specs.List.{range_with_len}
use Rattle.std.proofs.lemmas.Option.{same_Some, none-some}
use Rattle.std.proofs.lemmas.List.Sums.{sum_by-cons, sum_by-append}
use mathlib.Core.Option.{some}
use lib.ListN.{get_elem?}
use Rattle.atomic_table.proofs.Lists.{at_set}
use Rattle.morph_base.specs.Limits.{most_workers}
use Rattle.morph_base.specs.declared.plan.Plan.{Plan}
use Rattle.interleaving_core.specs.declared.entry.Entry.{Entry}
use Rattle.interleaving_core.specs.declared.entry.Settling.{Settling}
use Rattle.interleaving_core.specs.declared.event.CoreEvent.{CoreEvent}
use Rattle.interleaving_core.specs.Core.{Core}
use Rattle.interleaving_core.specs.Steps.{May, after}
use Rattle.interleaving_core.specs.Growth.{Grows}
use Rattle.interleaving_core.proofs.Machine.{step_keeps, step_grows}
use Rattle.op_words.specs.declared.trail.Joined.{Joined}
use Rattle.op_words.specs.declared.trail.Place.{Place}
use Rattle.op_words.specs.declared.trail.View.{View}
use Rattle.op_words.specs.Views.{IsPresent}
use Rattle.op_words.specs.Layout.{Shows}
use Rattle.op_words.specs.Rule.{Seats, live, taken, tags, of_counter, of_joined, Knows, Sums, HasNumbers, Lawful, Stays, Steps}
use Rattle.op_words.proofs.Rows.{sum_set, here_long}
use Rattle.op_words.proofs.Knowing.{knows_grows}

abbrev pub with_view : List ℕ → Seats → ℕ → View → Seats
with_view ws s i u = record { words = ws; homes = s.homes; views = set s.views i (Some u) }

-- what a step that is none of the machine's leaves in a view
pub record Rests (v u : View) : Type 0 where
  pub tag : u.tag ≡ v.tag
  pub published : u.published ≡ v.published
  pub settlings : u.settlings ≡ v.settlings
  pub events : u.events ≡ v.events
  pub joined : u.joined ≡ v.joined

tags_same : (h : ℕ → ℕ) (v u : View) → u.tag ≡ v.tag → u.joined ≡ v.joined → tags h u ≡ tags h v
tags_same h v u tag joined = ap (λ (z : ℕ × List Joined). h z.0 + sum_by (λ (x : Joined). h x.tag) z.1) (λ a. (tag a, joined a))

module _ (vs : List (Option View)) (i : ℕ) (v u : View) (at : get_elem? vs i ≡ some (Some v)) where
  pub sum_kept : (f : View → ℕ) → f u ≡ f v → sum_by (live f) (set vs i (Some u)) ≡ sum_by (live f) vs
  sum_kept f same = let r = sum_set (live f) vs i (Some v) (Some u) at in omega (arith, r, same)

  pub sum_more : (f : View → ℕ) (n : ℕ) → f u ≡ f v + n → sum_by (live f) (set vs i (Some u)) ≡ sum_by (live f) vs + n
  sum_more f n more = let r = sum_set (live f) vs i (Some v) (Some u) at in omega (arith, r, more)

  -- the view at a place, after and before
  pub before_view : (j : ℕ) (w : View) → get_elem? (set vs i (Some u)) j ≡ some (Some w) → ((j ≡ i) × (u ≡ w)) ⊎ ((j ≢ i) × (get_elem? vs j ≡ some (Some w)))
  before_view j w is =
      elim (at_set vs i j (Some u) (Some w) is) [
        | inl here ↦ inl (here.0, same_Some u w here.1)
        | inr other ↦ inr other
      ]

  tags_kept : u.tag ≡ v.tag → u.joined ≡ v.joined → (h : ℕ → ℕ) → sum_by (live (tags h)) vs ≡ sum_by h (range_with_len 1 (length vs))
      → sum_by (live (tags h)) (set vs i (Some u)) ≡ sum_by h (range_with_len 1 (length (set vs i (Some u))))
  tags_kept tag joined h is = sum_kept (tags h) (tags_same h v u tag joined) ∙ is ∙ ap (λ (n : ℕ). sum_by h (range_with_len 1 n)) (sym (length-set vs i (Some u)))

  pub sums_kept : (c : Core) (es : List CoreEvent) → Rests v u → Sums c es vs → Sums c es (set vs i (Some u))
  sums_kept c es rests sums = record {
    published = λ h. sum_kept (λ (x : View). sum_by h x.published) (ap (sum_by h) rests.published) ∙ sums.published h;
    settlings = λ h. sum_kept (λ (x : View). sum_by h x.settlings) (ap (sum_by h) rests.settlings) ∙ sums.settlings h;
    events = λ h. sum_kept (λ (x : View). sum_by h x.events) (ap (sum_by h) rests.events) ∙ sums.events h;
    tags_are = λ h. tags_kept rests.tag rests.joined h (sums.tags_are h);
  }

module _ {p : Plan} {cap counters : ℕ} (s : Seats) (lawful : Lawful p cap counters s) (i : ℕ) (v u : View) (at : get_elem? s.views i ≡ some (Some v)) where
  long : length (set s.views i (Some u)) ≡ length s.views
  long = length-set s.views i (Some u)

  inside : i < length s.views
  inside = here_long s.views i (Some v) at

  pub root_before : i ≡ 0 → get_elem? s.views 0 ≡ some (Some v)
  root_before first = subst (λ k. get_elem? s.views k ≡ some (Some v)) first at

  -- the machine's state stays, where the words show the same and the numbers taken are right
  pub moved : (ws : List ℕ) → Rests v u → Shows p counters lawful.core ws → HasNumbers p counters ws (set s.views i (Some u)) → Knows p cap lawful.core (length s.views) i u
      → (length s.views ≡ 1 → i ≡ 0 → IsPresent p lawful.core u) → Stays p cap counters s lawful (with_view ws s i u)
  moved ws rests shows numbers knows present = record {
    next = record {
      valid = lawful.valid;
      small = lawful.small;
      core = lawful.core;
      history = lawful.history;
      run = lawful.run;
      sound = lawful.sound;
      shows = shows;
      hands = λ j w is. subst (λ n. Knows p cap lawful.core n j w) (sym long)
          (elim (before_view s.views i v u at j w is) [
            | inl here ↦ subst (λ k. Knows p cap lawful.core (length s.views) k w) (sym here.0) (subst (Knows p cap lawful.core (length s.views) i) here.1 knows)
            | inr other ↦ lawful.hands j w other.1
          ]);
      spent = λ j is.
          elim (at_set s.views i j (Some u) None is) [
            | inl here ↦ absurd (none-some u (sym here.1))
            | inr other ↦ lawful.spent j other.1
          ];
      nobody = λ t more. lawful.nobody t (subst (λ n. n < t) long more);
      no_worker = lawful.no_worker;
      most = subst (λ n. n ≤ most_workers) (sym long) lawful.most;
      sums = sums_kept s.views i v u at lawful.core lawful.history rests lawful.sums;
      numbers = numbers;
      alone = λ single w root.
          elim (before_view s.views i v u at 0 w root) [
            | inl here ↦ subst (IsPresent p lawful.core) here.1 (present (sym long ∙ single) (sym here.0))
            | inr other ↦ lawful.alone (sym long ∙ single) w other.1
          ];
      only = λ single w root.
          elim (before_view s.views i v u at 0 w root) [
            | inl here ↦ lawful.only (sym long ∙ single) v (root_before (sym here.0)) ∙ sym rests.events ∙ ap (λ (x : View). x.events) here.1
            | inr other ↦ lawful.only (sym long ∙ single) w other.1
          ];
    };
    core_is = refl;
    history_is = refl;
  }

-- what a step e of the machine, made by seat i, is in its view
pub record Advances (c d : Core) (e : CoreEvent) (i : ℕ) (v u : View) : Type 0 where
  pub others : (t : ℕ) → t ≢ i + 1 → d.claim t ≡ c.claim t
  pub shown : List Entry
  pub shows : d.published ≡ c.published ++ shown
  pub mine : u.published ≡ v.published ++ shown
  pub booked : List Settling
  pub books : d.settlings ≡ c.settlings ++ booked
  pub my_books : u.settlings ≡ v.settlings ++ booked
  pub events : u.events ≡ e ∷ v.events
  pub tag : u.tag ≡ v.tag
  pub joined : u.joined ≡ v.joined
  pub places : u.places ≡ v.places

module _ {p : Plan} {cap counters : ℕ} (s : Seats) (lawful : Lawful p cap counters s) (i : ℕ) (v u : View) (at : get_elem? s.views i ≡ some (Some v))
    (e : CoreEvent) (may : May p cap lawful.core e) where
  abbrev pub next : Core
  next = after p lawful.core e

  pub grown : Grows p lawful.core next
  grown = step_grows p cap lawful.valid lawful.small lawful.core lawful.sound e may

  longer : length (set s.views i (Some u)) ≡ length s.views
  longer = length-set s.views i (Some u)

  seated : i < length s.views
  seated = here_long s.views i (Some v) at

  module _ (step : Advances lawful.core next e i v u) where
    sums_more : Sums next (e ∷ lawful.history) (set s.views i (Some u))
    sums_more = record {
      published = λ h.
          sum_more s.views i v u at (λ (x : View). sum_by h x.published) (sum_by h step.shown) (ap (sum_by h) step.mine ∙ sum_by-append h v.published step.shown)
          ∙ ap (λ (n : ℕ). n + sum_by h step.shown) (lawful.sums.published h) ∙ sym (ap (sum_by h) step.shows ∙ sum_by-append h lawful.core.published step.shown);
      settlings = λ h.
          sum_more s.views i v u at (λ (x : View). sum_by h x.settlings) (sum_by h step.booked) (ap (sum_by h) step.my_books ∙ sum_by-append h v.settlings step.booked)
          ∙ ap (λ (n : ℕ). n + sum_by h step.booked) (lawful.sums.settlings h) ∙ sym (ap (sum_by h) step.books ∙ sum_by-append h lawful.core.settlings step.booked);
      events = λ h.
          let a = ap (sum_by h) step.events ∙ sum_by-cons h e v.events in let b = sum_by-cons h e lawful.history in let old = lawful.sums.events h in
          let c = sum_more s.views i v u at (λ (x : View). sum_by h x.events) (h e) (omega (arith, a)) in omega (arith, b, c, old);
      tags_are = λ h. tags_kept s.views i v u at step.tag step.joined h (lawful.sums.tags_are h);
    }

    pub advanced : (ws : List ℕ) → Shows p counters next ws → HasNumbers p counters ws s.views → Knows p cap next (length s.views) i u
        → (length s.views ≡ 1 → i ≡ 0 → IsPresent p next u) → Steps p cap counters s lawful (with_view ws s i u) e
    advanced ws shows numbers knows present = record {
      may = may;
      next = record {
        valid = lawful.valid;
        small = lawful.small;
        core = next;
        history = e ∷ lawful.history;
        run = (lawful.core, lawful.run, may, refl);
        sound = step_keeps p cap lawful.valid lawful.small lawful.core lawful.sound e may;
        shows = shows;
        hands = λ j w is. subst (λ n. Knows p cap next n j w) (sym longer)
            (elim (before_view s.views i v u at j w is) [
              | inl here ↦ subst (λ k. Knows p cap next (length s.views) k w) (sym here.0) (subst (Knows p cap next (length s.views) i) here.1 knows)
              | inr other ↦ knows_grows grown (step.others (j + 1) (λ same. other.0 (omega (arith, same)))) (lawful.hands j w other.1)
            ]);
        spent = λ j is.
            elim (at_set s.views i j (Some u) None is) [
              | inl here ↦ absurd (none-some u (sym here.1))
              | inr other ↦ step.others (j + 1) (λ same. other.0 (omega (arith, same))) ∙ lawful.spent j other.1
            ];
        nobody = λ t more. step.others t (λ same. omega (arith, same, more, longer, seated)) ∙ lawful.nobody t (subst (λ n. n < t) longer more);
        no_worker = step.others 0 (λ same. omega (arith, same)) ∙ lawful.no_worker;
        most = subst (λ n. n ≤ most_workers) (sym longer) lawful.most;
        sums = sums_more;
        numbers = record {
          each = λ k lt h.
              let same : taken k h u ≡ taken k h v = ap (λ (z : List Place × List Joined). sum_by (of_counter k h) z.0 + sum_by (of_joined k h) z.1) (λ a. (step.places a, step.joined a)) in
              sum_kept s.views i v u at (taken k h) same ∙ numbers.each k lt h;
        };
        alone = λ single w root.
            elim (before_view s.views i v u at 0 w root) [
              | inl here ↦ subst (IsPresent p next) here.1 (present (sym longer ∙ single) (sym here.0))
              | inr other ↦ absurd (other.0 (omega (arith, seated, longer, single)))
            ];
        only = λ single w root.
            elim (before_view s.views i v u at 0 w root) [
              | inl here ↦ ap (λ (es : List CoreEvent). e ∷ es) (lawful.only (sym longer ∙ single) v (subst (λ k. get_elem? s.views k ≡ some (Some v)) (sym here.0) at)) ∙ sym step.events ∙ ap (λ (x : View). x.events) here.1
              | inr other ↦ absurd (other.0 (omega (arith, seated, longer, single)))
            ];
      };
      core_is = refl;
      history_is = refl;
    }
