-- What the closed table says: where all other hands were joined into the root, its view alone has everything.
use Rattle.std.proofs.Common.{◌≡◌, ◌≢◌, ℕ, zero, suc, ◌+◌, ◌<◌, ◌≤◌, Bool, true, false, eqb, nat_eq, cond, List, [], ◌∷◌, length, refl, sym, ap, ◌∙◌, subst, inl, inr, arith, Option, Some, None, eq-eqb, ne_eqb}
use Rattle.std.specs.Prelude.{slice_index, sum_by}
use Rattle.std.specs.List.{range_with_len}
use Rattle.std.proofs.lemmas.Bool.{cases_eq, cond-true, cond-false}
use mathlib.Core.Option.{some, some-injective, some-ne-none}
use lib.ListN.{get_elem?}
use Rattle.atomic_table.specs.Table.{Final, Seen}
use Rattle.morph_base.specs.declared.plan.Plan.{Plan}
use Rattle.morph_base.specs.Graphs.{below}
use Rattle.interleaving_core.specs.declared.event.CoreEvent.{CoreEvent}
use Rattle.op_words.specs.declared.trail.Joined.{Joined}
use Rattle.op_words.specs.declared.trail.View.{View}
use Rattle.op_words.specs.Layout.{counter_base, decision_base, packed_decision}
use Rattle.morph_base.specs.Plans.{op_count, event_count}
use Rattle.morph_base.specs.Words.{IsWord, packed}
use Rattle.op_words.specs.Rule.{Seats, live, tags, taken, Lawful}
use Rattle.op_words.specs.Closing.{IsJoined, EndsSound}
use Rattle.op_words.proofs.Rows.{here_long, sum_range_more}
use Rattle.op_words.proofs.Sizes.{sum_inside, sum_two, total_one}

-- a number stands in a range once at most, and not at all below its place
abbrev pub is_it : ℕ → ℕ → ℕ
is_it m k = cond (eqb k m) 1 0

range_none : (m a n : ℕ) → a + n ≤ m → sum_by (is_it m) (range_with_len a n) ≡ 0
range_none m a zero le = refl
range_none m a (suc n) le =
    let more = sum_range_more (is_it m) a n in
    let now : is_it m (a + n) ≡ 0 = cond-false (eqb (a + n) m) 1 0 (ne_eqb (a + n) m (λ e. omega (arith, e, le))) in
    let old = range_none m a n (omega (arith, le)) in
    omega (arith, more, now, old)

pub range_once : (m a n : ℕ) → sum_by (is_it m) (range_with_len a n) ≤ 1
range_once m a zero = omega arith
range_once m a (suc n) =
    let more = sum_range_more (is_it m) a n in
    elim (cases_eq (a + n) m) [
      | inl same ↦
          let now : is_it m (a + n) ≡ 1 = cond-true (eqb (a + n) m) 1 0 (eq-eqb (a + n) m same) in
          let none = range_none m a n (omega (arith, same)) in
          omega (arith, more, now, none)
      | inr other ↦
          let now : is_it m (a + n) ≡ 0 = cond-false (eqb (a + n) m) 1 0 (ne_eqb (a + n) m other) in
          let before = range_once m a n in
          omega (arith, more, now, before)
    ]

module _ {p : Plan} {cap counters : ℕ} (s : Seats) (lawful : Lawful p cap counters s) (i : ℕ) (v : View) (at : get_elem? s.views i ≡ some (Some v))
    (root : v.tag ≡ 1) (all : (t : ℕ) → 1 < t → t ≤ v.made → IsJoined v t) where
  first : i ≡ 0
  first = let a = (lawful.hands i v at).tag in omega (arith, a, root)

  root_there : get_elem? s.views 0 ≡ some (Some v)
  root_there = subst (λ k. get_elem? s.views k ≡ some (Some v)) first at

  -- a live hand was not joined
  not_both : (j : ℕ) (x : View) → get_elem? s.views j ≡ some (Some x) → j ≢ i → IsJoined v (j + 1) → ⊥
  not_both j x there other joined =
      let h : ℕ → ℕ = is_it (j + 1) in
      let law = lawful.sums.tags_are h in
      let two = sum_two (live (tags h)) s.views i j (Some v) (Some x) (λ e. other (sym e)) at there in
      let one_is : h x.tag ≡ 1 = cond-true (eqb x.tag (j + 1)) 1 0 (eq-eqb x.tag (j + 1) (lawful.hands j x there).tag) in
      let its : h joined.0.tag ≡ 1 = cond-true (eqb joined.0.tag (j + 1)) 1 0 (eq-eqb joined.0.tag (j + 1) joined.2) in
      let mine = sum_inside (λ (y : Joined). h y.tag) v.joined joined.0 joined.1 in
      let most = range_once (j + 1) 1 (length s.views) in
      omega (arith, law, two, one_is, its, mine, most)

  others : (f : View → ℕ) (j : ℕ) (x : Option View) → j ≢ i → get_elem? s.views j ≡ some x → live f x ≡ 0
  others f j None other is = refl
  others f j (Some x) other is =
      let low : 0 < j = above j other in
      let made : v.made ≡ length s.views = (lawful.hands i v at).root first in
      let lt = here_long s.views j (Some x) is in
      absurd (not_both j x is other (all (j + 1) (omega (arith, low)) (omega (arith, lt, made))))
    where
      above : (k : ℕ) → k ≢ i → 0 < k
      above zero n = absurd (n (sym first))
      above (suc k) n = omega arith

  pub total : (f : View → ℕ) → sum_by (live f) s.views ≡ f v
  total f = total_one (live f) s.views i (Some v) at (others f)

  pub numbers_of_root : (k : ℕ) → k < counters → (h : ℕ → ℕ) → taken k h v ≡ sum_by h (below (slice_index s.words (counter_base p + k)))
  numbers_of_root k lt h = sym (total (taken k h)) ∙ lawful.numbers.each k lt h

  pub events_of_root : (h : CoreEvent → ℕ) → sum_by h v.events ≡ sum_by h lawful.history
  events_of_root h = sym (total (λ (x : View). sum_by h x.events)) ∙ lawful.sums.events h

  pub ends : EndsSound p cap counters s.words v
  ends = record {
    core = lawful.core;
    history = lawful.history;
    run = lawful.run;
    sound = lawful.sound;
    shows = lawful.shows;
    noted = (lawful.hands i v at).noted;
    published = λ h. sym (total (λ (x : View). sum_by h x.published)) ∙ lawful.sums.published h;
    settlings = λ h. sym (total (λ (x : View). sum_by h x.settlings)) ∙ lawful.sums.settlings h;
    booked = (lawful.hands i v at).booked;
    events = events_of_root;
    numbers = numbers_of_root;
    tags_once = λ h. sym (total (tags h)) ∙ lawful.sums.tags_are h ∙ ap (λ n. sum_by h (range_with_len 1 n)) (sym ((lawful.hands i v at).root first));
    only = λ single. lawful.only (sym ((lawful.hands i v at).root first) ∙ single) v (subst (λ k. get_elem? s.views k ≡ some (Some v)) first at);
  }

-- of the words that the closed table has
pub closed_ends : {p : Plan} {cap counters id : ℕ} {v : View} {ws : List ℕ} (xs : List (Unit {0})) → Final (Seen (Lawful p cap counters) id (Some v)) ws xs
    → v.tag ≡ 1 → ((t : ℕ) → 1 < t → t ≤ v.made → IsJoined v t) → EndsSound p cap counters ws v
closed_ends {p} {cap} {counters} {id} {v} {ws} xs final root all = subst (λ (l : List ℕ). EndsSound p cap counters l v) final.2 (ends final.0 final.1.0 id v final.1.1 root all)

-- ---- what is read of the closed words

row_at : (ws : List ℕ) (i n : ℕ) → get_elem? ws i ≡ some n → slice_index ws i ≡ n
row_at [] i n at = absurd (some-ne-none n (sym at))
row_at (w ∷ ws) zero n at = some-injective w n at
row_at (w ∷ ws) (suc i) n at = row_at ws i n at

module _ {p : Plan} {cap counters : ℕ} {v : View} (ws : List ℕ) (end : EndsSound p cap counters ws v) where
  pub closed_word : (o n : ℕ) → o < op_count p → get_elem? ws o ≡ some n → IsWord (end.core.word o) × (packed (end.core.word o) ≡ n)
  closed_word o n lt at = ((end.sound.each_op o lt).range.word, sym (end.shows.ops o lt) ∙ row_at ws o n at)

  pub closed_decision : (i k n : ℕ) → k ≡ decision_base p → i < event_count p → get_elem? ws (k + i) ≡ some n → packed_decision (end.core.decision i) ≡ n
  closed_decision i k n base lt at = sym (end.shows.decisions i lt) ∙ ap (λ m. slice_index ws (m + i)) (sym base) ∙ row_at ws (k + i) n at

-- a decision as its number tells it
pub undecided : (d : Option Bool) (n : ℕ) → packed_decision d ≡ n → n ≡ 0 → None ≡ d
undecided None n is zero_is = refl
undecided (Some true) n is zero_is = absurd (omega (arith, is, zero_is))
undecided (Some false) n is zero_is = absurd (omega (arith, is, zero_is))

pub decided : (d : Option Bool) (n : ℕ) → packed_decision d ≡ n → n ≢ 0 → Some (nat_eq n 1) ≡ d
decided None n is other = absurd (other (sym is))
decided (Some true) n is other = subst (λ m. Some (nat_eq m 1) ≡ Some true) is refl
decided (Some false) n is other = subst (λ m. Some (nat_eq m 1) ≡ Some false) is refl
