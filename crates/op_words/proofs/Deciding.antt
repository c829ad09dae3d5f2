-- A decision is made: the step of the machine, and what the calls of one event come to.
use Rattle.std.proofs.Common.{◌≡◌, ◌≢◌, ◌⊎◌, ℕ, ◌+◌, ◌<◌, Bool, true, false, List, [], ◌∷◌, length, get_or, set, refl, sym, ap, ◌∙◌, subst, inl, inr, arith, Option, Some, None, length-set, get_or-set_same}
use Rattle.std.specs.Prelude.{IsSome, slice_index, ◌==◌}
use Rattle.std.proofs.lemmas.Bool.{cases_Bool, cases_eq, eqb-true}
use Rattle.std.proofs.lemmas.Option.{same_Some}
use Rattle.std.proofs.lemmas.List.Elements.{Contains-append_left, Contains-append_right}
use mathlib.Core.Option.{some, none}
use lib.ListN.{get_elem?}
use prog.Atomic.{either}
use Rattle.atomic_table.specs.Table.{step, keeps, Allows}
use Rattle.morph_base.specs.declared.plan.Plan.{Plan}
use Rattle.morph_base.specs.Clean.{outcome}
use Rattle.morph_base.specs.Plans.{op_count, event_count, origin_at, final, verdict}
use Rattle.morph_base.specs.Known.{AreKnown}
use Rattle.morph_base.specs.Words.{packed}
use Rattle.morph_base.proofs.KnownLaws.{known_outcome}
use Rattle.interleaving_core.specs.declared.event.CoreEvent.TheVariants.{Decide}
use Rattle.interleaving_core.specs.Core.{Core, put, places, IsSettledIn, value_in}
use Rattle.interleaving_core.specs.Steps.{May, after, AnswersOnSettled, FailsOnSettled, HasGrounds as HasGroundsIn}
use Rattle.interleaving_core.proofs.Basics.{put_here, put_else}
use Rattle.interleaving_core.proofs.Sources.{settled_right}
use Rattle.interleaving_core.proofs.Deciding.{grounds_right}
use Rattle.op_words.specs.declared.trail.DecisionSeen.{DecisionSeen}
use Rattle.op_words.specs.declared.trail.View.{View}
use Rattle.op_words.specs.declared.board.Board.{Board}
use Rattle.op_words.specs.declared.board.Hand.{Hand}
use Rattle.op_words.specs.Trails.{IsSteadyAt, IsCalmAt}
use Rattle.op_words.specs.Hands.{plan_of, view_in, view_of, held_of, IsHandOf}
use Rattle.op_words.specs.Views.{IsSourceSeen, IsDecisionSeen, AddsAndFrees, learning, deciding}
use Rattle.op_words.specs.Layout.{Shows, record_index, decision_base, packed_record, packed_decision}
use Rattle.op_words.specs.Rule.{Seats, Knows, Lawful, Steps}
use Rattle.op_words.specs.Plays.{Sat, IsTold, decides}
use Rattle.op_words.specs.Judging.{IsAnswerSeen, MaySayOf, ConcludeDoes}
use Rattle.op_words.proofs.Rows.{no_more, not_inside, one_inside, set_apart, set_same}
use Rattle.op_words.proofs.Knowing.{knows_more}
use Rattle.op_words.proofs.Moving.{with_view, advanced, grown, root_before}
use Rattle.op_words.proofs.Laying.{numbers_put, record_below}
use Rattle.op_words.proofs.Telling.{told}
use Rattle.op_words.proofs.Loading.{view_here}
use Rattle.op_words.proofs.Sighting.{source_present}
use Rattle.op_words.proofs.Recalling.{learned_stays, learned_still}
use Rattle.op_words.proofs.Trailing.{along_none}
use Rattle.op_words.proofs.Walking.{adds_learning}
use Rattle.op_words.proofs.Handing.{kept, kept_step, still}
use Rattle.op_words.proofs.Journaling.{HasNoted}

-- ---- the word of a decision changes

module _ {p : Plan} {counters : ℕ} {c : Core} (ws : List ℕ) (shows : Shows p counters c ws) (e : ℕ) (lt : e < event_count p) (committed : Bool) (d : Core)
    (words : (j : ℕ) → d.word j ≡ c.word j) (records : (q j : ℕ) → d.recorded q j ≡ c.recorded q j) (decisions : (j : ℕ) → d.decision j ≡ put c.decision e (Some committed) j) where
  abbrev here : ℕ
  here = decision_base p + e

  abbrev new : ℕ
  new = packed_decision (Some committed)

  inside : decision_base p + e < length ws
  inside = let l = shows.long in omega (arith, l, lt)

  decision_shown : (j : ℕ) → j < event_count p → (j ≡ e) ⊎ (j ≢ e) → get_or (set ws (decision_base p + e) (packed_decision (Some committed))) (decision_base p + j) 0 ≡ packed_decision (d.decision j)
  decision_shown j below which =
      elim which [
        | inl same ↦
            subst (λ k. get_or (set ws (decision_base p + e) new) (decision_base p + k) 0 ≡ packed_decision (d.decision k)) (sym same)
            (get_or-set_same ws (decision_base p + e) new 0 inside ∙ sym (ap packed_decision (decisions e ∙ put_here c.decision e (Some committed))))
        | inr other ↦ set_apart ws (decision_base p + e) (decision_base p + j) new (λ same. other (omega (arith, same))) ∙ shows.decisions j below
            ∙ sym (ap packed_decision (decisions j ∙ put_else c.decision e (Some committed) j other))
      ]

  pub shows_decision : Shows p counters d (set ws (decision_base p + e) (packed_decision (Some committed)))
  shows_decision = record {
    long = length-set ws (decision_base p + e) new ∙ shows.long;
    ops = λ j below. set_apart ws (decision_base p + e) j new (λ same. omega (arith, same, below)) ∙ shows.ops j below ∙ sym (ap packed (words j));
    records = λ q j below few. let b = record_below ws shows q below j few in
        set_apart ws (decision_base p + e) (record_index p q j) new (λ same. omega (arith, same, b)) ∙ shows.records q j below few ∙ sym (ap packed_record (records q j));
    decisions = λ j below. decision_shown j below (cases_eq j e);
  }

-- ---- the step

module _ {p : Plan} {cap counters : ℕ} (s : Seats) (lawful : Lawful p cap counters s) (i : ℕ) (v : View) (at : get_elem? s.views i ≡ some (Some v)) where
  knows : Knows p cap lawful.core (length s.views) i v
  knows = lawful.hands i v at

  sources_known : (o : ℕ) → ((j : ℕ) → j < places p o → (x : ℕ) × IsSourceSeen v (origin_at p o j) x) → AreKnown p (IsSettledIn lawful.core) o
  sources_known o seen j below = let k = seen j below in (source_present s lawful i v at (origin_at p o j) k.0 k.1).0

  outcome_is : (o : ℕ) → o < op_count p → AreKnown p (IsSettledIn lawful.core) o → outcome p (value_in lawful.core) o ≡ outcome p (final p) o
  outcome_is o lt known = known_outcome p (IsSettledIn lawful.core) (value_in lawful.core) lawful.valid (settled_right p cap lawful.valid lawful.core lawful.sound) o lt known

  answers_in : (o x : ℕ) → o < op_count p → IsAnswerSeen p v o (Some x) → AnswersOnSettled p lawful.core o
  answers_in o x lt is = let known = sources_known o is.sources in record { sources = known; answers = subst IsSome (sym (outcome_is o lt known ∙ is.answer_is)) refl }

  fails_in : (o : ℕ) → o < op_count p → IsAnswerSeen p v o None → FailsOnSettled p lawful.core o
  fails_in o lt is = let known = sources_known o is.sources in record { sources = known; fails = outcome_is o lt known ∙ is.answer_is }

  module _ (e : ℕ) (lt : e < event_count p) where
    grounds_in : (committed : Bool) → MaySayOf p v e committed → HasGroundsIn p lawful.core e committed
    grounds_in true all = record { each = λ o inside. let k = all o inside in answers_in o k.0 (lawful.valid.numbering.owned e o lt inside).0 k.1 }
    grounds_in false one = record { culprit = one.0; inside = one.1; fails = fails_in one.0 (lawful.valid.numbering.owned e one.0 lt one.1).0 one.2 }

    pub said_right : (committed : Bool) → MaySayOf p v e committed → verdict p e ≡ committed
    said_right committed grounds = grounds_right p cap lawful.valid lawful.small lawful.core lawful.sound e committed lt (grounds_in committed grounds)

    may_decide : (committed : Bool) → MaySayOf p v e committed → lawful.core.decision e ≡ None → May p cap lawful.core (Decide e committed)
    may_decide committed grounds open_event = record { in_range = lt; goes_from = open_event; grounds = grounds_in committed grounds }

    module _ (committed : Bool) (may : May p cap lawful.core (Decide e committed)) where
      abbrev next : Core
      next = after p lawful.core (Decide e committed)

      knows_decided : Knows p cap next (length s.views) i (deciding e committed v)
      knows_decided =
          knows_more {v = v} {xs = []} (grown s lawful i v (deciding e committed v) at (Decide e committed) may) knows
          (record {
            plan = refl;
            cap = refl;
            tag = refl;
            made = refl;
            notes = no_more v.notes;
            trail = no_more v.trail;
            learned = record { event = e; committed = committed } ∷ [];
            decisions = refl;
            settlings = λ x inside. inl inside;
            joined = refl;
            places = refl;
          })
          knows.claim (λ t inside. absurd (not_inside t inside)) (λ r inside. inl inside)
          (λ x inside. subst (λ (y : DecisionSeen). next.decision y.event ≡ Some y.committed) (one_inside (record { event = e; committed = committed }) x inside) (put_here lawful.core.decision e (Some committed)))

      pub decided_steps : Steps p cap counters s lawful (with_view (set s.words (decision_base p + e) (packed_decision (Some committed))) s i (deciding e committed v)) (Decide e committed)
      decided_steps =
          advanced s lawful i v (deciding e committed v) at (Decide e committed) may
          (record {
            others = λ t other. refl;
            shown = [];
            shows = no_more lawful.core.published;
            mine = no_more v.published;
            booked = [];
            books = no_more lawful.core.settlings;
            my_books = no_more v.settlings;
            events = refl;
            tag = refl;
            joined = refl;
            places = refl;
          })
          (set s.words (decision_base p + e) (packed_decision (Some committed))) (shows_decision s.words lawful.shows e lt committed next (λ j. refl) (λ q j. refl) (λ j. refl))
          (numbers_put s.words (decision_base p + e) (packed_decision (Some committed)) (omega (arith, lt)) lawful.numbers) knows_decided
          (λ single first. record { each = (lawful.alone single v (root_before s lawful i v (deciding e committed v) at first)).each })

      pub decided_told : IsTold (deciding e committed v)
      decided_told = told (with_view (set s.words (decision_base p + e) (packed_decision (Some committed))) s i (deciding e committed v)) decided_steps.next i (deciding e committed v) (view_here s.views i v (deciding e committed v) at)

    -- the exchange: a decision is made where there is none, and else the one that there is is loaded
    module _ (committed : Bool) (grounds : MaySayOf p v e committed) (me : Sat) where
      abbrev found : ℕ
      found = slice_index s.words (decision_base p + e)

      found_is : found ≡ packed_decision (lawful.core.decision e)
      found_is = lawful.shows.decisions e lt

      abbrev Tells : Sat → Type 0
      Tells after =
          ((found ≡ 0) × (◌≡◌ {A = Sat} after (Some (deciding e committed v), me.1)) × IsTold (deciding e committed v))
          ⊎ ((found ≡ packed_decision (Some committed)) × (◌≡◌ {A = Sat} after (Some (learning e (Some committed) v), me.1)))

      abbrev Done : Bool → Type 0
      Done hit = (x : View) × Lawful p cap counters (with_view (set s.words (decision_base p + e) (either hit (packed_decision (Some committed)) found)) s i x) × Tells (Some x, me.1)

      by_decision : (d : Option Bool) → lawful.core.decision e ≡ d → Done (found == 0)
      by_decision None is =
          let zero_found : found ≡ 0 = found_is ∙ ap packed_decision is in
          subst Done (sym (ap (λ n. n == 0) zero_found)) (deciding e committed v, (decided_steps committed (may_decide committed grounds is)).next, inl (zero_found, refl, decided_told committed (may_decide committed grounds is)))
      by_decision (Some made) is =
          let same : made ≡ committed = sym (lawful.sound.decided e made is).1 ∙ said_right committed grounds in
          let other : found ≢ 0 = not_zero made (found_is ∙ ap packed_decision is) in
          subst Done (sym (missed other))
          (learning e (Some committed) v, subst (λ ws. Lawful p cap counters (with_view ws s i (learning e (Some committed) v))) (sym (set_same s.words (decision_base p + e))) (learned_stays s lawful i v at e lt (Some committed) (is ∙ ap Some same)).next, inr (found_is ∙ ap packed_decision (is ∙ ap Some same), refl))
        where
          not_zero : (d : Bool) → found ≡ packed_decision (Some d) → found ≢ 0
          not_zero true is zero_found = omega (arith, is, zero_found)
          not_zero false is zero_found = omega (arith, is, zero_found)

          missed : found ≢ 0 → (found == 0) ≡ false
          missed other = elim (cases_Bool (found == 0)) [ inl hit ↦ absurd (other (eqb-true found 0 hit)) | inr miss ↦ miss ]

      pub concluded : Done (found == 0)
      concluded = by_decision (lawful.core.decision e) refl

same_decision : (a b : Bool) → packed_decision (Some a) ≡ packed_decision (Some b) → a ≡ b
same_decision true true same = refl
same_decision true false same = absurd (omega (arith, same))
same_decision false true same = absurd (omega (arith, same))
same_decision false false same = refl

module _ {p : Plan} {cap counters : ℕ} (slots id : ℕ) (me : Sat) (v : View) (is : me.0 ≡ Some v) (plan : v.plan.value ≡ p) (e : ℕ) (lt : e < event_count p) (committed : Bool) (grounds : MaySayOf p v e committed) where
  pub allows_decide : Allows (Lawful p cap counters) slots id me (decision_base p + e) (λ n. either (n == 0) (packed_decision (Some committed)) n)
      (decides (step slots (decision_base p + e) 0 (packed_decision (Some committed)) none) me)
  allows_decide s lawful homes at small =
      let there : get_elem? s.views id ≡ some (Some v) = at ∙ ap some is in
      let done = concluded s lawful id v there e lt committed grounds me in (
        Some done.0,
        keeps,
        tt,
        done.1,
        λ y same f f_lt index made second.
            let w : v ≡ y = same_Some v y (sym is ∙ same) in
            let q : y.plan.value ≡ p = ap (λ (u : View). u.plan.value) (sym w) ∙ plan in
            let base = ap decision_base q in
            let one : e ≡ f = omega (arith, index, base) in
            let answer : committed ≡ made = same_decision committed made second in
            subst (λ (t : View × ℕ × Bool). (verdict t.0.plan.value t.1 ≡ t.2)
            × (((slice_index s.words (decision_base p + e) ≡ 0) × (◌≡◌ {A = Sat} (Some done.0, me.1) (Some (deciding t.1 t.2 t.0), me.1)) × IsTold (deciding t.1 t.2 t.0))
            ⊎ ((slice_index s.words (decision_base p + e) ≡ packed_decision (Some t.2)) × (◌≡◌ {A = Sat} (Some done.0, me.1) (Some (learning t.1 (Some t.2) t.0), me.1)))))
            (λ a. (w a, one a, answer a))
            (ap (λ (x : Plan). verdict x e) plan ∙ said_right s lawful id v there e lt committed grounds, done.2),
      )

-- ---- the hand after the exchange

-- what the exchange told: the decision was made, or it was found
abbrev pub Concluding : ℕ → View → Bool → ℕ → Sat → Sat → Type 0
Concluding e v committed n me after =
    ((n ≡ 0) × (◌≡◌ {A = Sat} after (Some (deciding e committed v), me.1)) × IsTold (deciding e committed v))
    ⊎ ((n ≡ packed_decision (Some committed)) × (◌≡◌ {A = Sat} after (Some (learning e (Some committed) v), me.1)))

-- the word of a decision is not 0
some_decided : (committed : Bool) → 0 < packed_decision (Some committed)
some_decided true = omega arith
some_decided false = omega arith

pub conclude_told : (b : Board) (h : Hand) → IsHandOf b h → (p : Plan) → p ≡ plan_of b → (e k n second : ℕ) (committed : Bool) (me : Sat) → e < event_count p → k ≡ decision_base p + e → second ≡ packed_decision (Some committed)
    → decides (step b.table.shared.table_id.slots k 0 second none) h.seat.me n me → (verdict p e ≡ committed) × Concluding e (view_of h) committed n h.seat.me me
conclude_told b h is p plan e k n second committed me lt place new tells =
    let here : (view_of h).plan.value ≡ p = is.plan ∙ sym plan in
    let t = tells (view_of h) (ap (λ (m : Sat). m.0) is.seat) e (subst (λ (q : Plan). e < event_count q) (sym here) lt) (place ∙ ap (λ (q : Plan). decision_base q + e) (sym here)) committed new in
    (ap (λ (q : Plan). verdict q e) (sym here) ∙ t.0, t.1)

module _ (b : Board) (h g : Hand) (is : IsHandOf b h) (table : g.seat.table_id ≡ h.seat.table_id) (tag : g.tag ≡ h.tag) (made : g.made ≡ h.made) (held : g.held ≡ h.held) (counts : g.counts ≡ h.counts)
    (free : (view_of h).claim ≡ None) (p : Plan) (e : ℕ) (committed : Bool) (right : verdict p e ≡ committed) where
  made_hand : HasNoted h.journal g.journal (Decide e committed) → g.seat.me ≡ (Some (deciding e committed (view_of h)), []) → IsTold (deciding e committed (view_of h)) → IsHandOf b g
  made_hand noted me told_after =
      still b h g (deciding e committed (view_of h)) is table me refl refl
      (kept_step h g (deciding e committed (view_of h)) (Decide e committed) (kept is) tag made counts noted refl refl refl refl refl refl refl refl refl (ap held_of held ∙ is.held) (λ k same. is.fits k (sym held ∙ same))) told_after

  goes_deciding : IsTold (deciding e committed (view_of h)) → AddsAndFrees (view_of h) (deciding e committed (view_of h)) []
  goes_deciding told_after = record {
    adds = record {
      trail = no_more (view_of h).trail;
      notes = no_more (view_of h).notes;
      records = λ r inside. inside;
      decisions = λ d inside. Contains-append_left (view_of h).decisions _ d inside;
      published = λ x inside. inside;
      settlings = λ x inside. inside;
      tag = refl;
      made = refl;
      room = refl;
      joined = refl;
      places = refl;
      events = (Decide e committed ∷ [], refl, refl);
      agree = told_after.agree;
      steady = along_none (IsSteadyAt (view_of h).tag) (view_of h).notes;
      calm = λ lone. along_none IsCalmAt (view_of h).trail;
    };
    free = free;
  }

  goes_learning : AddsAndFrees (view_of h) (learning e (Some committed) (view_of h)) []
  goes_learning = record { adds = adds_learning (view_of h) e (Some committed) is.told.agree; free = free }

  known_after : (v : View) → IsDecisionSeen (learning e (Some committed) v) e committed
  known_after v = Contains-append_right v.decisions _ _ (0, omega arith, refl)

  pub concluded_as : (n : ℕ) → (n ≡ 0 → HasNoted h.journal g.journal (Decide e committed)) → (n ≢ 0 → g.journal ≡ h.journal)
      → Concluding e (view_of h) committed n h.seat.me g.seat.me → IsHandOf b g × ConcludeDoes p e (view_of h) (view_of g) committed
  concluded_as n noted same tells =
      elim tells [
        | inl hit ↦
            let me : g.seat.me ≡ (Some (deciding e committed (view_of h)), []) = hit.1 ∙ ap (λ (m : Sat). (Some (deciding e committed (view_of h)), m.1)) is.seat in
            let view : view_of g ≡ deciding e committed (view_of h) = ap (λ (m : Sat). view_in m.0) me in (
              made_hand (noted hit.0) me hit.2,
              record {
                goes = subst (λ (u : View). AddsAndFrees (view_of h) u []) (sym view) (goes_deciding hit.2);
                steps = inr (ap (λ (u : View). u.events) view);
                right = right;
                known = subst (λ (u : View). IsDecisionSeen u e committed) (sym view) (known_after (view_of h));
              },
            )
        | inr missed ↦
            let me : g.seat.me ≡ (Some (learning e (Some committed) (view_of h)), []) = missed.1 ∙ ap (λ (m : Sat). (Some (learning e (Some committed) (view_of h)), m.1)) is.seat in
            let view : view_of g ≡ learning e (Some committed) (view_of h) = ap (λ (m : Sat). view_in m.0) me in (
              learned_still b h g is table tag made held counts (same (λ zero. let some = some_decided committed in omega (arith, some, zero, missed.0))) e (Some committed) me,
              record {
                goes = subst (λ (u : View). AddsAndFrees (view_of h) u []) (sym view) goes_learning;
                steps = inl (ap (λ (u : View). u.events) view);
                right = right;
                known = subst (λ (u : View). IsDecisionSeen u e committed) (sym view) (known_after (view_of h));
              },
            )
      ]
