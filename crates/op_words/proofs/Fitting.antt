-- A hand gets room for its journal, by a step that leaves the level word as it is.
use Rattle.std.proofs.Common.{◌≡◌, ℕ, List, [], set, refl, sym, ap, ◌∙◌, subst, arith, Some, inl, inr, length, ◌+◌}
use Rattle.std.proofs.lemmas.List.{take_all}
use Rattle.morph_base.specs.declared.plan.Plan.{Plan}
use Rattle.interleaving_core.specs.declared.event.CoreEvent.{CoreEvent}
use Rattle.std.specs.Prelude.{slice_index, sum_by, reverse, take, ◌==◌}
use Rattle.std.specs.List.{range_with_len}
use Rattle.std.proofs.lemmas.Option.{same_Some}
use mathlib.Core.Option.{some, none}
use lib.ListN.{get_elem?}
use prog.Atomic.{either}
use Rattle.atomic_table.specs.Table.{step, keeps, Allows}
use Rattle.op_words.specs.declared.board.Board.{Board}
use Rattle.op_words.specs.declared.board.Hand.{Hand}
use Rattle.op_words.specs.declared.trail.View.{View}
use Rattle.op_words.specs.Layout.{level_index, counter_base}
use Rattle.op_words.specs.Rule.{Seats, live, taken, HasNumbers, Knows, Lawful, Stays}
use Rattle.op_words.specs.Plays.{Sat, IsTold}
use Rattle.op_words.specs.Counting.{fits}
use Rattle.op_words.specs.Journals.{room_in, steps_in, roomed}
use Rattle.op_words.specs.Views.{IsLone}
use Rattle.op_words.specs.Hands.{view_of, held_of, IsHandOf}
use Rattle.op_words.proofs.Rows.{sum_set, set_apart}
use Rattle.op_words.proofs.Handing.{still}
use Rattle.op_words.proofs.Moving.{with_view, moved}
use Rattle.op_words.proofs.Taking.{shows_level}

module _ {p : Plan} {cap counters : ℕ} (s : Seats) (lawful : Lawful p cap counters s) (i : ℕ) (v : View) (at : get_elem? s.views i ≡ some (Some v)) (a n : ℕ) where
  numbers_fit : HasNumbers p counters (set s.words (level_index p) a) (set s.views i (Some (roomed n v)))
  numbers_fit = record {
    each = λ k below h.
        let same : sum_by (live (taken k h)) (set s.views i (Some (roomed n v))) + taken k h v ≡ sum_by (live (taken k h)) s.views + taken k h v = sum_set (live (taken k h)) s.views i (Some v) (Some (roomed n v)) at in
        let law = lawful.numbers.each k below h in
        omega (arith, same, law) ∙ ap (λ (m : ℕ). sum_by h (range_with_len 0 m)) (sym (set_apart s.words (level_index p) (counter_base p + k) a (λ e. omega (arith, e))));
  }

  knows_fit : Knows p cap lawful.core (length s.views) i (roomed n v)
  knows_fit =
      let knows = lawful.hands i v at in
      record {
        plan = knows.plan;
        cap_is = knows.cap_is;
        tag = knows.tag;
        root = knows.root;
        other = knows.other;
        claim = knows.claim;
        noted = record { notes = knows.noted.notes; records = knows.noted.records; in_plan = knows.noted.in_plan; decisions = knows.noted.decisions };
        trail = record { each = knows.trail.each };
        booked = λ x inside. elim (knows.booked x inside) [ inl own ↦ inl own | inr other ↦ inr (record { of_tag = other.of_tag; inside = other.inside; tag_is = other.tag_is; settled = other.settled }) ];
        few = knows.few;
        few_joined = knows.few_joined;
      }

  pub fit_stays : Stays p cap counters s lawful (with_view (set s.words (level_index p) a) s i (roomed n v))
  fit_stays =
      moved s lawful i v (roomed n v) at (set s.words (level_index p) a) (record { tag = refl; published = refl; settlings = refl; events = refl; joined = refl }) (shows_level s lawful i v at a) numbers_fit knows_fit
      (λ single first. record { each = (lawful.alone single v (subst (λ m. get_elem? s.views m ≡ some (Some v)) first at)).each })

module _ {p : Plan} {cap counters : ℕ} where
  pub allows_fit : (slots id : ℕ) (me : Sat) (v : View) (n : ℕ) → me.0 ≡ Some v
      → Allows (Lawful p cap counters) slots id me (level_index p) (λ m. either (m == n) n m) (fits (step slots (level_index p) n n none) me)
  allows_fit slots id me v n is s lawful homes at small =
      let there : get_elem? s.views id ≡ some (Some v) = at ∙ ap some is in
      let m : ℕ = slice_index s.words (level_index p) in (
        Some (roomed n v),
        keeps,
        tt,
        (fit_stays s lawful id v there (either (m == n) n m) n).next,
        λ x same. ap (λ (y : View). (Some (roomed n y), me.1)) (same_Some v x (sym is ∙ same)),
      )

-- what is told of a view does not speak of room
fit_told : (n : ℕ) (v : View) → IsTold v → IsTold (roomed n v)
fit_told n v told = record {
  agree = told.agree;
  noted = record { each = told.noted.each };
  done = λ is. let d = told.done (record { root = is.root; alone = is.alone }) in record { core = d.core; run = d.run; present = record { each = d.present.each } };
}

pub fit_hand : (b : Board) (h g : Hand) (n : ℕ) → IsHandOf b h → IsLone (view_of h) → (view_of h).events ≡ [] → g.seat.table_id ≡ h.seat.table_id → g.seat.me ≡ (Some (roomed n (view_of h)), [])
    → g.tag ≡ h.tag → g.made ≡ h.made → g.held ≡ h.held → g.counts ≡ h.counts → room_in g.journal ≡ n → steps_in g.journal ≡ [] → IsHandOf b g
fit_hand b h g n is lone new table me tag made held counts room steps =
    still b h g (roomed n (view_of h)) is table me refl refl
    (record {
      worker = is.worker;
      counted = is.counted;
      tag = tag ∙ is.tag;
      made = made ∙ is.made;
      held = ap held_of held ∙ is.held;
      fits = λ k e. is.fits k (sym held ∙ e);
      counts = counts ∙ is.counts;
      journal = record { room = room; steps = steps ∙ sym (take_all n [] (omega arith)) ∙ ap (λ (es : List CoreEvent). take n (reverse es)) (sym new ∙ is.journal.alone (inl lone.alone)); alone = λ none. is.journal.alone none };
    })
    (fit_told n (view_of h) is.told)
