-- Loads of records and decisions keep the rule.
use Rattle.std.proofs.Common.{◌≡◌, ℕ, suc, suc-le-suc, ◌+◌, ◌-◌, ◌<◌, ◌≤◌, Bool, List, [], ◌∷◌, length, get_or, set, refl, sym, ap, ◌∙◌, subst, inl, inr, arith, Option, Some, None}
use Rattle.std.specs.Prelude.{Contains, slice_index}
use Rattle.std.proofs.lemmas.Bool.{cases_eq, false≢true}
use Rattle.std.proofs.lemmas.Option.{same_Some}
use Rattle.std.proofs.lemmas.List.Elements.{Contains-append_cases}
use mathlib.Core.Option.{some, none}
use lib.ListN.{get_elem?}
use Rattle.atomic_table.specs.Table.{step, keeps, Allows}
use Rattle.morph_base.specs.declared.limits.TheConstants.{MAX}
use Rattle.morph_base.specs.declared.plan.Plan.{Plan}
use Rattle.morph_base.specs.declared.word.OpWord.{OpWord}
use Rattle.morph_base.specs.OpLists.{places_before}
use Rattle.morph_base.specs.Plans.{IsPlan, op_count, event_count}
use Rattle.morph_base.proofs.BoundLaws.{high_of-small}
use Rattle.interleaving_core.specs.declared.entry.Record.{Record}
use Rattle.interleaving_core.specs.Core.{blocked, entry_of, places, record_value}
use Rattle.interleaving_core.specs.Sightings.{IsNoted, IsRecordNoted}
use Rattle.op_words.specs.declared.trail.DecisionSeen.{DecisionSeen}
use Rattle.op_words.specs.declared.trail.Item.{Item}
use Rattle.op_words.specs.declared.trail.RecordSeen.{RecordSeen}
use Rattle.op_words.specs.declared.trail.View.{View}
use Rattle.op_words.specs.Trails.{last_word}
use Rattle.op_words.specs.Views.{recalling, learning}
use Rattle.op_words.specs.Layout.{record_index, packed_record, decision_base, packed_decision, level_index}
use Rattle.op_words.specs.Rule.{Seats, taken, Knows, Lawful, Stays}
use Rattle.op_words.specs.Plays.{Sat, IsDecision, IsTold, recalls, learns}
use Rattle.op_words.specs.declared.board.Board.{Board}
use Rattle.op_words.specs.declared.board.Hand.{Hand}
use Rattle.op_words.specs.Hands.{plan_of, view_in, view_of, held_of, call_on, IsHandOf}
use Rattle.op_words.specs.Stepping.{Recalled, Learned}
use Rattle.op_words.proofs.Handing.{still}
use Rattle.op_words.proofs.Journaling.{journal_same}
use Rattle.interleaving_core.proofs.Recorded.{shown_recorded}
use Rattle.op_words.proofs.Trailing.{last-none, last-cons, last-skip}
use Rattle.op_words.proofs.Rows.{no_more, not_inside, one_inside, set_same}
use Rattle.op_words.proofs.Knowing.{same_grows, words_more, knows_more}
use Rattle.op_words.proofs.Moving.{with_view, moved, sum_kept, root_before}
use Rattle.op_words.proofs.Sighting.{seen_decided}
use Rattle.op_words.proofs.Loading.{same_stays}
use Rattle.op_words.proofs.RecordPlaces.{one_record}

-- the last word that was noted, or the first one of all
last_noted : (o : ℕ) (P : OpWord → Type 0) (d : OpWord) (xs : List Item) → P d → ((t : Item) → Contains xs t → t.op ≡ o → P t.word) → P (last_word o d xs)
last_noted o P d [] base all = subst P (sym (last-none o d)) base
last_noted o P d (t ∷ ts) base all =
    elim (cases_eq t.op o) [
      | inl same ↦ subst P (sym (last-cons o d t ts same)) (last_noted o P t.word ts (all t (0, omega arith, refl) same) (λ x inside is. all x (suc inside.0, suc-le-suc inside.1, inside.2) is))
      | inr other ↦ subst P (sym (last-skip o d t ts other)) (last_noted o P d ts base (λ x inside is. all x (suc inside.0, suc-le-suc inside.1, inside.2) is))
    ]

module _ {p : Plan} {cap counters : ℕ} (s : Seats) (lawful : Lawful p cap counters s) (i : ℕ) (v : View) (at : get_elem? s.views i ≡ some (Some v)) where
  knows : Knows p cap lawful.core (length s.views) i v
  knows = lawful.hands i v at

  -- ---- a record

  module _ (o j : ℕ) (lt : o < op_count p) (below : j < places p o) where
    abbrev r : Option Record
    r = lawful.core.recorded o j

    abbrev w : OpWord
    w = last_word o (blocked 1) v.notes

    abbrev seen : RecordSeen
    seen = record { op = o; place = j; value = record_value (lawful.core.recorded o j); word = last_word o (blocked 1) v.notes }

    word_noted : IsNoted lawful.core o (last_word o (blocked 1) v.notes)
    word_noted =
        last_noted o (IsNoted lawful.core o) (blocked 1) v.notes
        (record { attempt = (lawful.sound.each_op o lt).range.word.first; shown = λ is. absurd (false≢true is); settled = λ is. absurd (false≢true is) })
        (λ t inside same. subst (λ n. IsNoted lawful.core n t.word) same (knows.noted.notes t inside))

    record_noted : IsRecordNoted lawful.core o j (record_value (lawful.core.recorded o j)) (last_word o (blocked 1) v.notes)
    record_noted = record {
      under = word_noted;
      same = λ shown present.
          let k = shown_recorded p cap lawful.valid lawful.small lawful.history lawful.core lawful.run (entry_of o w) (word_noted.shown shown) (sym present) j below in
          (k.0, k.1, sym (ap record_value k.1));
    }

    recalled_knows : Knows p cap lawful.core (length s.views) i (recalling o j (record_value (lawful.core.recorded o j)) v)
    recalled_knows =
        knows_more {v = v} {xs = []} same_grows knows
        (words_more (record { plan = refl; cap = refl; tag = refl; made = refl; notes = no_more v.notes; trail = no_more v.trail; decisions = refl; settlings = refl; joined = refl; places = refl }))
        knows.claim (λ t inside. absurd (not_inside t inside))
        (λ x inside.
        elim (Contains-append_cases v.records (seen ∷ []) x inside) [
          | inl old ↦ inl old
          | inr new ↦ inr (subst (λ (y : RecordSeen). (y.op < op_count p) × IsRecordNoted lawful.core y.op y.place y.value y.word) (one_inside seen x new) (lt, record_noted))
        ])
        (λ x inside. absurd (not_inside x inside))

    pub recalled_stays : Stays p cap counters s lawful (with_view s.words s i (recalling o j (record_value (lawful.core.recorded o j)) v))
    recalled_stays =
        moved s lawful i v (recalling o j (record_value r) v) at s.words (record { tag = refl; published = refl; settlings = refl; events = refl; joined = refl }) lawful.shows
        (record { each = λ k few h. sum_kept s.views i v (recalling o j (record_value r) v) at (taken k h) refl ∙ lawful.numbers.each k few h }) recalled_knows
        (λ single first. record { each = (lawful.alone single v (root_before s lawful i v (recalling o j (record_value r) v) at first)).each })

    recalled_keeps : (k : ℕ) → Lawful p cap counters (with_view (set s.words k (get_or s.words k 0)) s i (recalling o j (record_value (lawful.core.recorded o j)) v))
    recalled_keeps k = subst (λ ws. Lawful p cap counters (with_view ws s i (recalling o j (record_value r) v))) (sym (set_same s.words k)) recalled_stays.next

    small_value : record_value (lawful.core.recorded o j) ≤ MAX
    small_value = by_record (lawful.core.recorded o j) refl
      where
        by_record : (x : Option Record) → lawful.core.recorded o j ≡ x → record_value x ≤ MAX
        by_record None is = omega arith
        by_record (Some k) is = let few = ((lawful.sound.each_op o lt).records j k below is).small in let most = high_of-small p lawful.valid in omega (arith, few, most)

  -- ---- a decision

  module _ (e : ℕ) (lt : e < event_count p) where
    decision_in : (d : Option Bool) → lawful.core.decision e ≡ d → (q : Plan) → p ≡ q → IsDecision q v e d
    decision_in d is q same = subst (λ (x : Plan). IsDecision x v e d) same (record {
      right = λ committed some. (lawful.sound.decided e committed (is ∙ some)).1;
      known = λ committed seen. sym is ∙ knows.noted.decisions _ seen;
      none_settled = λ none o inside settled. let owned = lawful.valid.numbering.owned e o lt inside in seen_decided s lawful i v at owned.0 settled (ap lawful.core.decision owned.1 ∙ is ∙ none);
    })

    pub decision_at : IsDecision v.plan.value v e (lawful.core.decision e)
    decision_at = decision_in (lawful.core.decision e) refl v.plan.value (sym knows.plan)

    abbrev seen_decision : Bool → DecisionSeen
    seen_decision committed = record { event = e; committed = committed }

    pub learned_stays : (d : Option Bool) → lawful.core.decision e ≡ d → Stays p cap counters s lawful (with_view s.words s i (learning e d v))
    learned_stays None is = same_stays s lawful i v at
    learned_stays (Some committed) is =
        moved s lawful i v (learning e (Some committed) v) at s.words (record { tag = refl; published = refl; settlings = refl; events = refl; joined = refl }) lawful.shows
        (record { each = λ k few h. sum_kept s.views i v (learning e (Some committed) v) at (taken k h) refl ∙ lawful.numbers.each k few h }) knows_learned
        (λ single first. record { each = (lawful.alone single v (root_before s lawful i v (learning e (Some committed) v) at first)).each })
      where
        knows_learned : Knows p cap lawful.core (length s.views) i (learning e (Some committed) v)
        knows_learned =
            knows_more {v = v} {xs = []} same_grows knows
            (record { plan = refl; cap = refl; tag = refl; made = refl; notes = no_more v.notes; trail = no_more v.trail; learned = seen_decision committed ∷ []; decisions = refl; settlings = λ x inside. inl inside; joined = refl; places = refl })
            knows.claim (λ t inside. absurd (not_inside t inside)) (λ x inside. inl inside)
            (λ x inside. subst (λ (y : DecisionSeen). lawful.core.decision y.event ≡ Some y.committed) (one_inside (seen_decision committed) x inside) is)

    pub learned_keeps : (k : ℕ) → Lawful p cap counters (with_view (set s.words k (get_or s.words k 0)) s i (learning e (lawful.core.decision e) v))
    learned_keeps k = subst (λ ws. Lawful p cap counters (with_view ws s i (learning e (lawful.core.decision e) v))) (sym (set_same s.words k)) (learned_stays (lawful.core.decision e) refl).next

-- one place for each decision
pub decision_place : (p q : Plan) (e level n : ℕ) → q ≡ p → level ≡ level_index p → n ≡ event_count q → decision_base p + e ≡ level - n + e
decision_place p q e level n same is long = let c = ap event_count same in omega (arith, c, is, long)

pub record_place : (p q : Plan) (o j n before : ℕ) → q ≡ p → n ≡ op_count q → before ≡ places_before q.ops.items o → record_index p o j ≡ n + before + j
record_place p q o j n before same is front = let e = ap op_count same in let f = ap (λ (r : Plan). places_before r.ops.items o) same in omega (arith, e, f, is, front)

module _ {p : Plan} {cap counters : ℕ} (slots id : ℕ) (me : Sat) (v : View) (is : me.0 ≡ Some v) (plan : v.plan.value ≡ p) where
  pub allows_recall : (o j : ℕ) → o < op_count p → j < places p o → IsPlan p → Allows (Lawful p cap counters) slots id me (record_index p o j) (λ n. n) (recalls (step slots (record_index p o j) 0 0 none) me)
  allows_recall o j lt below valid s lawful homes at small =
      let there : get_elem? s.views id ≡ some (Some v) = at ∙ ap some is in (
        Some (recalling o j (record_value (lawful.core.recorded o j)) v),
        keeps,
        tt,
        recalled_keeps s lawful id v there o j lt below (record_index p o j),
        λ x same m n m_lt n_below index.
            let e : v ≡ x = same_Some v x (sym is ∙ same) in
            let q : x.plan.value ≡ p = ap (λ (y : View). y.plan.value) (sym e) ∙ plan in
            let m_in : m < op_count p = subst (λ (y : Plan). m < op_count y) q m_lt in
            let n_lt = subst (λ (y : Plan). n < places y m) q n_below in
            let one = one_record p o j m n lt below m_in n_lt (index ∙ ap (λ (y : Plan). record_index y m n) q) in
            subst (λ (z : View × ℕ × ℕ). (r : Option Record) × (record_value r ≤ MAX) × (slice_index s.words (record_index p o j) ≡ packed_record r) × (◌≡◌ {A = Sat} (Some (recalling o j (record_value (lawful.core.recorded o j)) v), me.1) (Some (recalling z.1 z.2 (record_value r) z.0), me.1)))
            (λ a. (e a, one.0 a, one.1 a))
            (lawful.core.recorded o j, small_value s lawful id v there o j lt below, lawful.shows.records o j lt below, refl),
      )

  pub allows_learn : (e : ℕ) → e < event_count p → Allows (Lawful p cap counters) slots id me (decision_base p + e) (λ n. n) (learns (step slots (decision_base p + e) 0 0 none) me)
  allows_learn e lt s lawful homes at small =
      let there : get_elem? s.views id ≡ some (Some v) = at ∙ ap some is in (
        Some (learning e (lawful.core.decision e) v),
        keeps,
        tt,
        learned_keeps s lawful id v there e lt (decision_base p + e),
        λ x same f f_lt index.
            let w : v ≡ x = same_Some v x (sym is ∙ same) in
            let q : x.plan.value ≡ p = ap (λ (y : View). y.plan.value) (sym w) ∙ plan in
            let base = ap decision_base q in
            let one : e ≡ f = omega (arith, index, base) in
            subst (λ (z : View × ℕ). (d : Option Bool) × (slice_index s.words (decision_base p + e) ≡ packed_decision d) × IsDecision z.0.plan.value z.0 z.1 d × (◌≡◌ {A = Sat} (Some (learning e (lawful.core.decision e) v), me.1) (Some (learning z.1 d z.0), me.1))) (λ a. (w a, one a))
            (lawful.core.decision e, lawful.shows.decisions e lt, decision_at s lawful id v there e lt, refl),
      )

-- ---- the hand after a load

-- a view with other records and decisions
abbrev noting : List RecordSeen → List DecisionSeen → View → View
noting rs ds v = record v { records = rs; decisions = ds }

noted_told : (rs : List RecordSeen) (ds : List DecisionSeen) (v : View) → IsTold v → IsTold (noting rs ds v)
noted_told rs ds v told = record {
  agree = told.agree;
  noted = record { each = told.noted.each };
  done = λ is. let d = told.done (record { root = is.root; alone = is.alone }) in record { core = d.core; run = d.run; present = record { each = d.present.each } };
}

module _ (b : Board) (h g : Hand) (is : IsHandOf b h) (table : g.seat.table_id ≡ h.seat.table_id) (tag : g.tag ≡ h.tag) (made : g.made ≡ h.made) (held : g.held ≡ h.held) (counts : g.counts ≡ h.counts) (journal : g.journal ≡ h.journal) where
  noted_hand : (rs : List RecordSeen) (ds : List DecisionSeen) → g.seat.me ≡ (Some (noting rs ds (view_of h)), []) → IsHandOf b g
  noted_hand rs ds me =
      still b h g (noting rs ds (view_of h)) is table me refl refl
      (record {
        worker = is.worker;
        counted = is.counted;
        tag = tag ∙ is.tag;
        made = made ∙ is.made;
        held = ap held_of held ∙ is.held;
        fits = λ k e. is.fits k (sym held ∙ e);
        counts = counts ∙ is.counts;
        journal = journal_same (noting rs ds (view_of h)) is.journal journal refl (λ none. none) refl refl;
      })
      (noted_told rs ds (view_of h) is.told)

  pub mine : (u : View) → g.seat.me ≡ (Some u, h.seat.me.1) → g.seat.me ≡ (Some u, [])
  mine u me = me ∙ ap (λ (m : Sat). (Some u, m.1)) is.seat

  pub recalled_hand : (o j x : ℕ) → x ≤ MAX → g.seat.me ≡ (Some (recalling o j x (view_of h)), h.seat.me.1) → Recalled (call_on b h g) o j x
  recalled_hand o j x small me = record {
    hand = noted_hand (recalling o j x (view_of h)).records (view_of h).decisions (mine (recalling o j x (view_of h)) me);
    view = ap (λ (m : Sat). view_in m.0) me;
    small = small;
  }

  pub learned_still : (e : ℕ) (d : Option Bool) → g.seat.me ≡ (Some (learning e d (view_of h)), []) → IsHandOf b g
  learned_still e None seat = noted_hand (view_of h).records (view_of h).decisions seat
  learned_still e (Some committed) seat = noted_hand (view_of h).records (learning e (Some committed) (view_of h)).decisions seat

  pub learned_hand : (e : ℕ) (d : Option Bool) → IsDecision (view_of h).plan.value (view_of h) e d → g.seat.me ≡ (Some (learning e d (view_of h)), h.seat.me.1) → Learned (call_on b h g) e d
  learned_hand e d tells me = record {
    hand = learned_still e d (mine (learning e d (view_of h)) me);
    view = ap (λ (m : Sat). view_in m.0) me;
    tells = subst (λ (p : Plan). IsDecision p (view_of h) e d) is.plan tells;
  }

-- what such a load tells a hand of the board
module _ (b : Board) (h : Hand) (is : IsHandOf b h) (p : Plan) (same : p ≡ plan_of b) (n : ℕ) (me : Sat) where
  abbrev slots : ℕ
  slots = b.table.shared.table_id.slots

  here : (view_of h).plan.value ≡ p
  here = is.plan ∙ sym same

  pub recall_told : (o j k : ℕ) → o < op_count p → j < places p o → k ≡ record_index p o j → recalls (step slots k 0 0 none) h.seat.me n me
      → (r : Option Record) × (record_value r ≤ MAX) × (n ≡ packed_record r) × (me ≡ (Some (recalling o j (record_value r) (view_of h)), h.seat.me.1))
  recall_told o j k lt below place tells =
      tells (view_of h) (ap (λ (m : Sat). m.0) is.seat) o j (subst (λ (q : Plan). o < op_count q) (sym here) lt) (subst (λ (q : Plan). j < places q o) (sym here) below)
      (place ∙ ap (λ (q : Plan). record_index q o j) (sym here))

  pub learn_told : (e k : ℕ) → e < event_count p → k ≡ decision_base p + e → learns (step slots k 0 0 none) h.seat.me n me
      → (d : Option Bool) × (n ≡ packed_decision d) × IsDecision (view_of h).plan.value (view_of h) e d × (me ≡ (Some (learning e d (view_of h)), h.seat.me.1))
  learn_told e k lt place tells =
      tells (view_of h) (ap (λ (m : Sat). m.0) is.seat) e (subst (λ (q : Plan). e < event_count q) (sym here) lt) (place ∙ ap (λ (q : Plan). decision_base q + e) (sym here))
