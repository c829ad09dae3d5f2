-- An operation is settled: the step of the machine, and what the call comes to.
use Rattle.std.proofs.Common.{◌≡◌, ◌⊎◌, ℕ, ◌<◌, true, [], ◌∷◌, ◌++◌, length, set, refl, sym, ap, ◌∙◌, subst, inl, inr, arith, Some}
use Rattle.std.specs.Prelude.{Contains, slice_index, ◌==◌}
use Rattle.std.proofs.lemmas.Option.{same_Some}
use Rattle.std.proofs.lemmas.List.Elements.{Contains-append_right, Contains-append_cases}
use mathlib.Core.Option.{some, none}
use lib.ListN.{get_elem?}
use prog.Atomic.{either}
use Rattle.atomic_table.specs.Table.{step, keeps, Allows}
use Rattle.morph_base.specs.declared.plan.Plan.{Plan}
use Rattle.morph_base.specs.declared.word.OpWord.{OpWord}
use Rattle.morph_base.specs.Clean.{source}
use Rattle.morph_base.specs.Plans.{op_count, origin_at, final}
use Rattle.morph_base.specs.Words.{IsWord, is_settled, packed, settled, settled_aborted}
use Rattle.morph_base.proofs.WordLaws.{one_word}
use Rattle.interleaving_core.specs.declared.entry.Settling.{Settling}
use Rattle.interleaving_core.specs.declared.event.CoreEvent.{CoreEvent}
use Rattle.interleaving_core.specs.declared.event.CoreEvent.TheVariants.{Settle}
use Rattle.interleaving_core.specs.Core.{Core, put, is_shown, is_open, value_in}
use Rattle.interleaving_core.specs.Steps.{after, settling as settling_in, MaySettle}
use Rattle.interleaving_core.proofs.Basics.{put_here}
use Rattle.interleaving_core.proofs.Sources.{settled_right}
use Rattle.interleaving_core.proofs.Machine.{step_keeps}
use Rattle.op_words.specs.declared.trail.View.{View}
use Rattle.op_words.specs.Trails.{left}
use Rattle.op_words.specs.Views.{HasSettled, IsBookedInView, IsRecordSeen, settling}
use Rattle.op_words.specs.Rule.{Seats, Knows, Lawful, Steps}
use Rattle.op_words.specs.Plays.{Sat, Leaves, Swaps, settles}
use Rattle.op_words.specs.Comparing.{IsToCommit, IsToAbort, MaySettleIt}
use Rattle.op_words.proofs.Rows.{no_more, one_inside}
use Rattle.op_words.proofs.Moving.{with_view}
use Rattle.op_words.proofs.Claiming.{is_worker}
use Rattle.op_words.proofs.Leaving.{IsLeft, left_steps, left_so, swapped}
use Rattle.op_words.proofs.Sighting.{source_present, record_present}

module _ {p : Plan} {cap counters : ℕ} (s : Seats) (lawful : Lawful p cap counters s) (i : ℕ) (v : View) (at : get_elem? s.views i ≡ some (Some v)) where
  knows : Knows p cap lawful.core (length s.views) i v
  knows = lawful.hands i v at

  module _ (o : ℕ) (lt : o < op_count p) (z : OpWord) where
    -- what a settled word is in the view
    is_booked : is_settled z.state ≡ true → (x : Settling) → Contains (settling o z v).settlings x → Contains v.settlings x ⊎ IsBookedInView (settling o z v) x
    is_booked stands x inside =
        elim (Contains-append_cases v.settlings (record { op = o; by = v.tag } ∷ []) x inside) [
          | inl old ↦ inl old
          | inr new ↦
              let same = one_inside (record { op = o; by = v.tag }) x new in
              inr (inl (
                ap (λ (y : Settling). y.by) same,
                subst (HasSettled (settling o z v).trail) (ap (λ (y : Settling). y.op) same) (record { word = z; inside = Contains-append_right v.trail (left o z ∷ []) (left o z) (0, omega arith, refl); settled = stands }),
              ))
        ]

    -- the state after the step
    abbrev e : CoreEvent
    e = Settle o v.tag

    abbrev sealed : Core
    sealed = record lawful.core { word = put lawful.core.word o z; settlings = lawful.core.settlings ++ record { op = o; by = v.tag } ∷ [] }

    is_sealed : is_settled z.state ≡ true → IsLeft p lawful.core sealed o z e i v (settling o z v)
    is_sealed stands = record {
      words = λ j. refl;
      recorded = λ q j. refl;
      decided = λ j. refl;
      claim = knows.claim;
      advances = record {
        others = λ t other. refl;
        shown = [];
        shows = no_more lawful.core.published;
        mine = no_more v.published;
        booked = record { op = o; by = v.tag } ∷ [];
        books = refl;
        my_books = refl;
        events = refl;
        tag = refl;
        joined = refl;
        places = refl;
      };
      more = record {
        plan = refl;
        cap = refl;
        tag = refl;
        made = refl;
        notes = refl;
        trail = refl;
        learned = [];
        decisions = no_more v.decisions;
        settlings = λ x inside. is_booked stands x inside;
        joined = refl;
        places = refl;
      };
      learned = refl;
      records = λ noted r inside. inl inside;
    }

    -- a step that settles the operation so
    module _ (may : MaySettle p lawful.core o v.tag) (stands : is_settled z.state ≡ true) (after_is : after p lawful.core e ≡ sealed) where
      left_is : IsLeft p lawful.core (after p lawful.core e) o z e i v (settling o z v)
      left_is = subst (λ (d : Core). IsLeft p lawful.core d o z e i v (settling o z v)) (sym after_is) (is_sealed stands)

      sealed_steps : Steps p cap counters s lawful (with_view (set s.words o (packed z)) s i (settling o z v)) (Settle o v.tag)
      sealed_steps = left_steps s lawful i v (settling o z v) at o lt z e may left_is

      sealed_so : Leaves v (settling o z v) (left o z)
      sealed_so = left_so s lawful i v (settling o z v) at o lt z e may left_is

      -- its value is the fold's
      sealed_value : z.value ≡ final p o
      sealed_value =
          let sound = step_keeps p cap lawful.valid lawful.small lawful.core lawful.sound e may in
          let here : (after p lawful.core e).word o ≡ z = ap (λ (d : Core). d.word o) after_is ∙ put_here lawful.core.word o z in
          ap (λ (x : OpWord). x.value) (sym here) ∙ settled_right p cap lawful.valid (after p lawful.core e) sound o lt (ap (λ (x : OpWord). is_settled x.state) here ∙ stands)

  -- any step of the machine that settles it
  module _ (o : ℕ) (lt : o < op_count p) (may : MaySettle p lawful.core o v.tag) where
    abbrev now : OpWord
    now = (after p lawful.core (Settle o v.tag)).word o

    by_word : (z : OpWord) → is_settled z.state ≡ true → after p lawful.core (Settle o v.tag) ≡ sealed o lt z
        → Steps p cap counters s lawful (with_view (set s.words o (packed now)) s i (settling o now v)) (Settle o v.tag)
    by_word z stands is =
        let here : z ≡ now = sym (ap (λ (d : Core). d.word o) is ∙ put_here lawful.core.word o z) in
        subst (λ (x : OpWord). Steps p cap counters s lawful (with_view (set s.words o (packed x)) s i (settling o x v)) (Settle o v.tag)) here (sealed_steps o lt z may stands is)

    pub any_settled : Steps p cap counters s lawful (with_view (set s.words o (packed now)) s i (settling o now v)) (Settle o v.tag)
    any_settled =
        elim may.as_decided [
          | inl commits ↦ by_word (settled (lawful.core.word o).attempt (value_in lawful.core o) v.tag) refl (ap (settling_in p lawful.core o v.tag) commits.decided)
          | inr aborts ↦ by_word (settled_aborted (lawful.core.word o).attempt (source p (value_in lawful.core) o 0) v.tag) refl (ap (settling_in p lawful.core o v.tag) aborts.decided)
        ]

  module _ (o : ℕ) (lt : o < op_count p) (w z : OpWord) (word : lawful.core.word o ≡ w) where
    -- under commit
    committed_may : IsToCommit p v o w z → MaySettle p lawful.core o v.tag
    committed_may is = record {
      in_range = lt;
      worker = is_worker s lawful i v at;
      as_decided = inl (record {
        decided = knows.noted.decisions _ is.decided;
        goes_from = ap (λ (x : OpWord). x.state) word ∙ is.executed;
        sources = λ j below. (source_present s lawful i v at (origin_at p o j) (source p (final p) o j) (is.equal j below).seen).0;
        records = λ j below.
            let known = source_present s lawful i v at (origin_at p o j) (source p (final p) o j) (is.equal j below).seen in
            let shown : is_shown (lawful.core.word o).state ≡ true = ap (λ (x : OpWord). is_shown x.state) word ∙ ap is_shown is.executed in
            let k = record_present s lawful i v at o lt j (source p (final p) o j) shown (subst (λ (x : OpWord). IsRecordSeen v o j x (source p (final p) o j)) (sym word) (is.equal j below).recorded) in
            (k.0, k.1, k.2 ∙ sym known.1);
      });
    }

    committed_after : IsToCommit p v o w z → after p lawful.core (Settle o v.tag) ≡ sealed o lt z
    committed_after is =
        let made : settled (lawful.core.word o).attempt (lawful.core.word o).value v.tag ≡ z = ap (λ (x : OpWord). settled x.attempt x.value v.tag) word ∙ sym is.word_is in
        ap (settling_in p lawful.core o v.tag) (knows.noted.decisions _ is.decided)
        ∙ ap (λ (x : OpWord). record lawful.core { word = put lawful.core.word o x; settlings = lawful.core.settlings ++ record { op = o; by = v.tag } ∷ [] }) made

    -- under abort
    aborted_may : IsToAbort p v o w z → MaySettle p lawful.core o v.tag
    aborted_may is = record {
      in_range = lt;
      worker = is_worker s lawful i v at;
      as_decided = inr (record {
        decided = knows.noted.decisions _ is.decided;
        goes_from = ap (λ (x : OpWord). is_open x.state) word ∙ is.open_is;
        target = (source_present s lawful i v at (origin_at p o 0) (source p (final p) o 0) is.target).0;
      });
    }

    aborted_after : IsToAbort p v o w z → after p lawful.core (Settle o v.tag) ≡ sealed o lt z
    aborted_after is =
        let known = source_present s lawful i v at (origin_at p o 0) (source p (final p) o 0) is.target in
        let made : settled_aborted (lawful.core.word o).attempt (source p (value_in lawful.core) o 0) v.tag ≡ z =
        ap (λ (y : ℕ × ℕ). settled_aborted y.0 y.1 v.tag) (λ n. (ap (λ (x : OpWord). x.attempt) word n, known.1 n)) ∙ sym is.word_is in
        ap (settling_in p lawful.core o v.tag) (knows.noted.decisions _ is.decided)
        ∙ ap (λ (x : OpWord). record lawful.core { word = put lawful.core.word o x; settlings = lawful.core.settlings ++ record { op = o; by = v.tag } ∷ [] }) made

    settled_state : MaySettleIt p v o w z → is_settled z.state ≡ true
    settled_state is =
        elim is [
          | inl commits ↦ ap (λ (x : OpWord). is_settled x.state) commits.word_is
          | inr aborts ↦ ap (λ (x : OpWord). is_settled x.state) aborts.word_is
        ]

    module _ (is : MaySettleIt p v o w z) where
      may_settle : MaySettle p lawful.core o v.tag
      may_settle = elim is [ inl commits ↦ committed_may commits | inr aborts ↦ aborted_may aborts ]

      after_is : after p lawful.core (Settle o v.tag) ≡ sealed o lt z
      after_is = elim is [ inl commits ↦ committed_after commits | inr aborts ↦ aborted_after aborts ]

      pub settled_steps : Steps p cap counters s lawful (with_view (set s.words o (packed z)) s i (settling o z v)) (Settle o v.tag)
      settled_steps = sealed_steps o lt z may_settle (settled_state is) after_is

      pub settled_so : Leaves v (settling o z v) (left o z)
      settled_so = sealed_so o lt z may_settle (settled_state is) after_is

      pub settled_value : z.value ≡ final p o
      settled_value = sealed_value o lt z may_settle (settled_state is) after_is

module _ {p : Plan} {cap counters : ℕ} (slots id : ℕ) (me : Sat) (v : View) (is : me.0 ≡ Some v) (plan : v.plan.value ≡ p) (o : ℕ) (lt : o < op_count p) (w z : OpWord) (is_word : IsWord w) (new : IsWord z) (grounds : MaySettleIt p v o w z) where
  pub allows_settle : Allows (Lawful p cap counters) slots id me o (λ n. either (n == packed w) (packed z) n) (settles (step slots o (packed w) (packed z) none) me)
  allows_settle s lawful homes at small =
      let there : get_elem? s.views id ≡ some (Some v) = at ∙ ap some is in
      let r = swapped s lawful id v (settling o z v) me there o lt w z is_word (λ same. ((settled_steps s lawful id v there o lt w z same grounds).next, settled_so s lawful id v there o lt w z same grounds)) in (
        Some r.0,
        keeps,
        tt,
        r.1,
        λ x same y y_word second.
            let e : v ≡ x = same_Some v x (sym is ∙ same) in
            let one : z ≡ y = one_word z y new y_word second in
            subst (λ (t : View × OpWord). Swaps o (slice_index s.words o) (packed w) t.0 (settling o t.1 t.0) t.1 me (Some r.0, me.1) × (slice_index s.words o ≡ packed w → t.1.value ≡ final t.0.plan.value o)) (λ k. (e k, one k)) (
              r.2,
              λ hit.
                  let present : lawful.core.word o ≡ w = one_word (lawful.core.word o) w (lawful.sound.each_op o lt).range.word is_word (sym (lawful.shows.ops o lt) ∙ hit) in
                  settled_value s lawful id v there o lt w z present grounds ∙ sym (ap (λ (q : Plan). final q o) plan),
            ),
      )
