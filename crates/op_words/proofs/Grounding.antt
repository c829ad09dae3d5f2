-- The steps that take a value back: a failure is spread to an operation, or it is rolled back to its next attempt.
use Rattle.std.proofs.Common.{◌≡◌, ◌≢◌, ◌⊎◌, ℕ, suc, ◌+◌, ◌^◌, ◌-◌, ◌<◌, ◌≤◌, Bool, true, cond, eqb, ◌&&◌, List, [], ◌∷◌, length, set, refl, sym, ap, ◌∙◌, subst, inl, inr, arith, suc-le-suc, zero-lt-suc, Some}
use Rattle.std.specs.Prelude.{Contains, slice_index, sum_by, count_by, min, ◌==◌}
use Rattle.std.proofs.lemmas.Bool.{cases_Bool, cases_lt, eq-eqb, eqb-true, and_from, and_parts, false≢true}
use Rattle.std.proofs.lemmas.Option.{same_Some}
use Rattle.std.proofs.lemmas.List.Sums.{sum_by-cons}
use mathlib.Core.Option.{some, none}
use lib.ListN.{get_elem?}
use prog.Atomic.{either}
use Rattle.atomic_table.specs.Table.{step, keeps, Allows}
use Rattle.morph_base.specs.declared.limits.TheConstants.{MAX}
use Rattle.morph_base.specs.Limits.{most_attempts}
use Rattle.morph_base.specs.declared.plan.Plan.{Plan}
use Rattle.morph_base.specs.declared.plan.Origin.{Origin}
use Rattle.morph_base.specs.declared.plan.Origin.TheVariants.{Base, Op as Written}
use Rattle.morph_base.specs.declared.word.OpState.{OpState}
use Rattle.morph_base.specs.declared.word.OpState.TheVariants.{Blocked, Ready, Claimed, Executed, Failed, Spread, Settled, SettledAborted}
use Rattle.morph_base.specs.declared.word.OpWord.{OpWord}
use Rattle.morph_base.specs.Words.{IsWord, packed, is_evaluated, is_settled, is_shown}
use Rattle.morph_base.specs.Plans.{op_count, origin_at}
use Rattle.morph_base.specs.Clean.{from, source}
use Rattle.morph_base.specs.Known.{IsKnown, AreKnown}
use Rattle.morph_base.proofs.WordLaws.{one_word}
use Rattle.interleaving_core.specs.declared.entry.Entry.{Entry}
use Rattle.interleaving_core.specs.declared.event.CoreEvent.{CoreEvent}
use Rattle.interleaving_core.specs.declared.event.CoreEvent.TheVariants.{Spread as SpreadStep, RollBack}
use Rattle.interleaving_core.specs.Core.{blocked, spread, entry_of, record_value, IsSettledIn, value_in, IsVersion}
use Rattle.interleaving_core.specs.Steps.{HasFailed, IsRecordedOtherwise, HasOtherVersion, IsSpreadOnSettled, IsStaleAtCap, MaySpread, MayRollBack, May, after, spread_of}
use Rattle.interleaving_core.proofs.Basics.{count_some}
use Rattle.op_words.specs.declared.answers.Counts.{Counts}
use Rattle.op_words.specs.declared.board.Hand.{Hand}
use Rattle.op_words.specs.declared.trail.View.{View}
use Rattle.op_words.specs.Trails.{loaded, left}
use Rattle.op_words.specs.Views.{HasShownFailure, IsRecordSeen, last_op, last_place, spreading, rolling_back}
use Rattle.op_words.specs.Rule.{Seats, live, Knows, Lawful, Steps}
use Rattle.op_words.specs.Plays.{Sat, Leaves, Swaps, spreads, rolls}
use Rattle.op_words.specs.Hands.{view_of, held_of, counts_of}
use Rattle.op_words.specs.Kinds.{IsUsable}
use Rattle.op_words.specs.Grounds.{HasGroundsToSpread, HasGroundsToRoll, AreSourcesSettled, IsSeenStale, IsSpreadSeen}
use Rattle.op_words.proofs.Rows.{no_more, sum_has}
use Rattle.op_words.proofs.Knowing.{words_more}
use Rattle.op_words.proofs.Moving.{with_view}
use Rattle.op_words.proofs.Leaving.{IsLeft, left_steps, left_so, swapped}
use Rattle.op_words.proofs.Sighting.{seen_present, record_present}
use Rattle.op_words.proofs.Keeping.{seen_settled, seen_version}
use Rattle.op_words.proofs.Handing.{IsKept, counts_append}
use Rattle.op_words.proofs.Journaling.{HasNoted, journal_step}

-- where some pass there is one that does
passing : {X : Type 0} (q : X → Bool) (xs : List X) → 1 ≤ count_by q xs → (x : X) × Contains xs x × (q x ≡ true)
passing q [] least = absurd (omega (arith, least))
passing {X} q (x ∷ xs) least =
    elim (cases_Bool (q x)) [
      | inl passes ↦ (x, (0, zero-lt-suc (length xs), refl), passes)
      | inr fails ↦
          let counted : count_by q (x ∷ xs) ≡ 0 + count_by q xs = sum_by-cons (λ y. cond (q y) 1 0) x xs ∙ ap (λ b. cond b 1 0 + count_by q xs) fails in
          let r = passing q xs (omega (arith, least, counted)) in
          (r.0, (suc r.1.0, suc-le-suc r.1.1, r.1.2), r.2)
    ]

evaluated_shown : (s : OpState) → is_evaluated s ≡ true → is_shown s ≡ true
evaluated_shown Blocked is = is
evaluated_shown Ready is = is
evaluated_shown Claimed is = is
evaluated_shown Executed is = refl
evaluated_shown Failed is = refl
evaluated_shown Spread is = refl
evaluated_shown Settled is = refl
evaluated_shown SettledAborted is = is

module _ {p : Plan} {cap counters : ℕ} (s : Seats) (lawful : Lawful p cap counters s) (i : ℕ) (v : View) (at : get_elem? s.views i ≡ some (Some v)) where
  knows : Knows p cap lawful.core (length s.views) i v
  knows = lawful.hands i v at

  -- ---- spread

  module _ (o : ℕ) (may : May p cap lawful.core (SpreadStep o (last_op 0 v.notes))) where
    abbrev w : OpWord
    w = spread_of p lawful.core o

    is_spread : IsLeft p lawful.core (after p lawful.core (SpreadStep o (last_op 0 v.notes))) o w (SpreadStep o (last_op 0 v.notes)) i v (spreading o w v)
    is_spread = record {
      words = λ j. refl;
      recorded = λ q j. refl;
      decided = λ j. refl;
      claim = knows.claim;
      advances = record {
        others = λ t other. refl;
        shown = entry_of o w ∷ [];
        shows = refl;
        mine = refl;
        booked = [];
        books = no_more lawful.core.settlings;
        my_books = no_more v.settlings;
        events = refl;
        tag = refl;
        joined = refl;
        places = refl;
      };
      more = words_more (record { plan = refl; cap = refl; tag = refl; made = refl; notes = refl; trail = refl; decisions = refl; settlings = refl; joined = refl; places = refl });
      learned = refl;
      records = λ noted r inside. inl inside;
    }

    pub spread_steps : Steps p cap counters s lawful (with_view (set s.words o (packed (spread_of p lawful.core o))) s i (spreading o (spread_of p lawful.core o) v)) (SpreadStep o (last_op 0 v.notes))
    spread_steps = left_steps s lawful i v (spreading o w v) at o may.in_range w (SpreadStep o (last_op 0 v.notes)) may is_spread

    pub spread_so : Leaves v (spreading o (spread_of p lawful.core o) v) (left o (spread_of p lawful.core o))
    spread_so = left_so s lawful i v (spreading o w v) at o may.in_range w (SpreadStep o (last_op 0 v.notes)) may is_spread

  -- a failure that the view shows, the machine's list does
  failure_mine : (q : ℕ) → HasShownFailure v q → HasFailed lawful.core.published q
  failure_mine q is =
      let f : Entry → Bool = λ x. (x.op == q) && x.failed in
      let h : Entry → ℕ = λ x. cond ((x.op == q) && x.failed) 1 0 in
      let own : 1 ≤ sum_by h v.published = count_some f v.published is.entry is.inside (and_from (eqb is.entry.op q) is.entry.failed (eq-eqb is.entry.op q is.op_is) is.failed_is) in
      let most : sum_by h v.published ≤ sum_by (live (λ (x : View). sum_by h x.published)) s.views = sum_has (live (λ (x : View). sum_by h x.published)) s.views i (Some v) at in
      let all : sum_by (live (λ (x : View). sum_by h x.published)) s.views ≡ sum_by h lawful.core.published = lawful.sums.published h in
      let found = passing f lawful.core.published (omega (arith, own, most, all)) in
      let both = and_parts (eqb found.0.op q) found.0.failed found.2 in
      record { entry = found.0; inside = found.1; op_is = eqb-true found.0.op q both.0; failed_is = both.1 }

  module _ (o : ℕ) (lt : o < op_count p) (w : OpWord) (x : ℕ) (grounds : HasGroundsToSpread p cap o v w x) (word : lawful.core.word o ≡ w) where
    may_spread : MaySpread p cap lawful.core o (last_op 0 v.notes)
    may_spread = record {
      in_range = lt;
      sibling_in_range = grounds.sibling.in_range;
      another = grounds.sibling.another;
      same_event = grounds.sibling.same_event;
      goes_from = ap (λ (z : OpWord). z.state) word ∙ grounds.executed;
      below_cap = subst (λ (z : OpWord). z.attempt < cap) (sym word) grounds.below;
      failure = failure_mine (last_op 0 v.notes) grounds.sibling.failure;
    }

    record_is : record_value (lawful.core.recorded o 0) ≡ x
    record_is =
        let k = record_present s lawful i v at o lt 0 x (ap (λ (z : OpWord). is_shown z.state) word ∙ ap is_shown grounds.executed) (subst (λ (z : OpWord). Contains v.records (record { op = o; place = 0; value = x; word = z })) (sym word) grounds.record_is) in
        ap record_value k.1 ∙ k.2

    word_is : spread_of p lawful.core o ≡ spread (w.attempt + 1) x
    word_is = ap (λ (z : ℕ × ℕ). spread (z.0 + 1) z.1) (λ k. (ap (λ (z : OpWord). z.attempt) word k, record_is k))

    pub spread_done : Lawful p cap counters (with_view (set s.words o (packed (spread (w.attempt + 1) x))) s i (spreading o (spread (w.attempt + 1) x) v)) × Leaves v (spreading o (spread (w.attempt + 1) x) v) (left o (spread (w.attempt + 1) x))
    spread_done =
        subst (λ (z : OpWord). Lawful p cap counters (with_view (set s.words o (packed z)) s i (spreading o z v)) × Leaves v (spreading o z v) (left o z)) word_is
        ((spread_steps o may_spread).next, spread_so o may_spread)

  -- ---- rolled back

  module _ (o : ℕ) (may : May p cap lawful.core (RollBack o (last_place 0 v.records))) where
    abbrev a : ℕ
    a = (lawful.core.word o).attempt + 1

    is_rolled : IsLeft p lawful.core (after p lawful.core (RollBack o (last_place 0 v.records))) o (blocked ((lawful.core.word o).attempt + 1)) (RollBack o (last_place 0 v.records)) i v (rolling_back o ((lawful.core.word o).attempt + 1) v)
    is_rolled = record {
      words = λ j. refl;
      recorded = λ q j. refl;
      decided = λ j. refl;
      claim = knows.claim;
      advances = record {
        others = λ t other. refl;
        shown = [];
        shows = no_more lawful.core.published;
        mine = no_more v.published;
        booked = [];
        books = no_more lawful.core.settlings;
        my_books = no_more v.settlings;
        events = refl;
        tag = refl;
        joined = refl;
        places = refl;
      };
      more = words_more (record { plan = refl; cap = refl; tag = refl; made = refl; notes = refl; trail = refl; decisions = refl; settlings = refl; joined = refl; places = refl });
      learned = refl;
      records = λ noted r inside. inl inside;
    }

    pub roll_steps : Steps p cap counters s lawful (with_view (set s.words o (packed (blocked ((lawful.core.word o).attempt + 1)))) s i (rolling_back o ((lawful.core.word o).attempt + 1) v)) (RollBack o (last_place 0 v.records))
    roll_steps = left_steps s lawful i v (rolling_back o a v) at o may.in_range (blocked a) (RollBack o (last_place 0 v.records)) may is_rolled

    pub roll_so : Leaves v (rolling_back o ((lawful.core.word o).attempt + 1) v) (left o (blocked ((lawful.core.word o).attempt + 1)))
    roll_so = left_so s lawful i v (rolling_back o a v) at o may.in_range (blocked a) (RollBack o (last_place 0 v.records)) may is_rolled

  -- a value that the hand may read is a version, and at the cap it is that of a settled source
  version_of : (a x : ℕ) (q : Origin) → IsUsable v cap a q x → IsVersion lawful.core q x
  version_of a x (Base b) is = is
  version_of a x (Written t) is = seen_version lawful.core t x is.word (knows.noted.notes (loaded t is.word) is.inside) is.value_is is.shown

  settled_value : (a x : ℕ) (q : Origin) → a ≡ cap + 1 → IsUsable v cap a q x → from (λ (n : ℕ). (lawful.core.word n).value) q ≡ x
  settled_value a x (Base b) last is = is
  settled_value a x (Written t) last is = (seen_settled lawful.core t x is.word (knows.noted.notes (loaded t is.word) is.inside) is.value_is (is.at_last last)).1

  known_of : (o : ℕ) → AreSourcesSettled p o v → AreKnown p (IsSettledIn lawful.core) o
  known_of o all j below = at_origin (origin_at p o j) refl
    where
      at_origin : (q : Origin) → origin_at p o j ≡ q → IsKnown (IsSettledIn lawful.core) q
      at_origin (Base b) is = tt
      at_origin (Written t) is = let seen = all t (record { place = j; in_places = below; source_is = is }) in ap (λ (z : OpWord). is_settled z.state) (seen_present s lawful i v at seen) ∙ seen.settled

  module _ (o : ℕ) (lt : o < op_count p) (w : OpWord) (j : ℕ) (grounds : HasGroundsToRoll p cap o v w j) (word : lawful.core.word o ≡ w) where
    otherwise : (x y : ℕ) → grounds.kept ≢ x → y ≡ x → IsRecordedOtherwise lawful.core o j y
    otherwise x y differs same =
        let k = record_present s lawful i v at o lt j grounds.kept (ap (λ (z : OpWord). is_shown z.state) word ∙ evaluated_shown w.state grounds.evaluated) (subst (λ (z : OpWord). IsRecordSeen v o j z grounds.kept) (sym word) grounds.record_is) in
        record { kept = k.0; is = k.1; differs = λ e. differs (sym k.2 ∙ e ∙ same) }

    attempt_is : (lawful.core.word o).attempt ≡ w.attempt
    attempt_is = ap (λ (z : OpWord). z.attempt) word

    state_is : (lawful.core.word o).state ≡ w.state
    state_is = ap (λ (z : OpWord). z.state) word

    abbrev Cause : Type 0
    Cause = HasOtherVersion p cap lawful.core o j ⊎ (IsSpreadOnSettled p cap lawful.core o ⊎ IsStaleAtCap p cap lawful.core o j)

    cause_stale : IsSeenStale p cap o v w j grounds.kept → Cause
    cause_stale stale =
        elim (cases_lt w.attempt cap) [
          | inl below ↦ inl (record {
            below_cap = omega (arith, below, attempt_is);
            version = stale.version;
            is_version = version_of (w.attempt + 1) stale.version (origin_at p o j) stale.usable;
            differs = otherwise stale.version stale.version stale.differs refl;
          })
          | inr high ↦
              let most = grounds.most in
              let at_cap : w.attempt ≡ cap = omega (arith, high, most) in
              inr (inr (record {
                at_cap = attempt_is ∙ at_cap;
                sources = known_of o (stale.at_cap at_cap);
                stale = inr (otherwise stale.version (source p (value_in lawful.core) o j) stale.differs (settled_value (w.attempt + 1) stale.version (origin_at p o j) (ap (λ (n : ℕ). n + 1) at_cap) stale.usable));
              }))
        ]

    cause_spread : IsSpreadSeen p cap o v w → Cause
    cause_spread is =
        elim (cases_lt w.attempt cap) [
          | inl below ↦ inr (inl (record { below_cap = omega (arith, below, attempt_is); state_is = state_is ∙ is.state_is; sources = known_of o is.sources }))
          | inr high ↦ let most = grounds.most in inr (inr (record { at_cap = omega (arith, high, most, attempt_is); sources = known_of o is.sources; stale = inl (state_is ∙ is.state_is) }))
        ]

    pub may_roll : MayRollBack p cap lawful.core o j
    may_roll = record {
      in_range = lt;
      in_places = grounds.in_places;
      goes_from = ap is_evaluated state_is ∙ grounds.evaluated;
      cause = elim grounds.cause [ inl stale ↦ cause_stale stale | inr is ↦ cause_spread is ];
    }

  module _ (o : ℕ) (lt : o < op_count p) (w : OpWord) (grounds : HasGroundsToRoll p cap o v w (last_place 0 v.records)) (word : lawful.core.word o ≡ w) where
    pub roll_done : Lawful p cap counters (with_view (set s.words o (packed (blocked (w.attempt + 1)))) s i (rolling_back o (w.attempt + 1) v)) × Leaves v (rolling_back o (w.attempt + 1) v) (left o (blocked (w.attempt + 1)))
    roll_done =
        let may = may_roll o lt w (last_place 0 v.records) grounds word in
        subst (λ (z : OpWord). Lawful p cap counters (with_view (set s.words o (packed (blocked (z.attempt + 1)))) s i (rolling_back o (z.attempt + 1) v)) × Leaves v (rolling_back o (z.attempt + 1) v) (left o (blocked (z.attempt + 1)))) word
        ((roll_steps o may).next, roll_so o may)

same_blocked : (a b : ℕ) → packed (blocked a) ≡ packed (blocked b) → a ≡ b
same_blocked a b e = omega (arith, e)

module _ {p : Plan} {cap counters : ℕ} (slots id : ℕ) (me : Sat) (v : View) (is : me.0 ≡ Some v) (o : ℕ) (lt : o < op_count p) (w : OpWord) (is_word : IsWord w) where
  pub allows_spread : (x : ℕ) → IsWord (spread (w.attempt + 1) x) → HasGroundsToSpread p cap o v w x
      → Allows (Lawful p cap counters) slots id me o (λ n. either (n == packed w) (packed (spread (w.attempt + 1) x)) n) (spreads (step slots o (packed w) (packed (spread (w.attempt + 1) x)) none) me)
  allows_spread x right grounds s lawful homes at small =
      let there : get_elem? s.views id ≡ some (Some v) = at ∙ ap some is in
      let z : OpWord = spread (w.attempt + 1) x in
      let r = swapped s lawful id v (spreading o z v) me there o lt w z is_word (λ same. spread_done s lawful id v there o lt w x grounds same) in (
        Some r.0,
        keeps,
        tt,
        r.1,
        λ y same t t_word second.
            let e : v ≡ y = same_Some v y (sym is ∙ same) in
            let one : z ≡ t = one_word z t right t_word second in
            subst (λ (q : View × OpWord). Swaps o (slice_index s.words o) (packed w) q.0 (spreading o q.1 q.0) q.1 me (Some r.0, me.1)) (λ k. (e k, one k)) r.2,
      )

  pub allows_roll : HasGroundsToRoll p cap o v w (last_place 0 v.records)
      → Allows (Lawful p cap counters) slots id me o (λ n. either (n == packed w) (packed (blocked (w.attempt + 1))) n) (rolls (step slots o (packed w) (packed (blocked (w.attempt + 1))) none) me)
  allows_roll grounds s lawful homes at small =
      let there : get_elem? s.views id ≡ some (Some v) = at ∙ ap some is in
      let a : ℕ = w.attempt + 1 in
      let r = swapped s lawful id v (rolling_back o a v) me there o lt w (blocked a) is_word (λ same. roll_done s lawful id v there o lt w grounds same) in (
        Some r.0,
        keeps,
        tt,
        r.1,
        λ y same t second.
            let e : v ≡ y = same_Some v y (sym is ∙ same) in
            let one : a ≡ t = same_blocked a t second in
            subst (λ (q : View × ℕ). Swaps o (slice_index s.words o) (packed w) q.0 (rolling_back o q.1 q.0) (blocked q.1) me (Some r.0, me.1)) (λ k. (e k, one k)) r.2,
      )

-- ---- what the hand keeps

swap : (m n : ℕ) → min (m + n) (2 ^ 64 - 1) ≡ min (n + m) (2 ^ 64 - 1)
swap m n = omega arith

-- one step more, which counts this much
counts_more : (k a one : Counts) (e : CoreEvent) (es : List CoreEvent) → one ≡ counts_of (e ∷ []) → a ≡ counts_of es
    → k.evaluated ≡ min (a.evaluated + one.evaluated) (2 ^ 64 - 1) → k.spread ≡ min (a.spread + one.spread) (2 ^ 64 - 1) → k.rolled ≡ min (a.rolled + one.rolled) (2 ^ 64 - 1)
    → k ≡ counts_of (e ∷ es)
counts_more k a one e es counts is evaluated spread rolled =
    counts_append k one a (e ∷ []) es counts is (evaluated ∙ swap a.evaluated one.evaluated) (spread ∙ swap a.spread one.spread) (rolled ∙ swap a.rolled one.rolled)

-- what a spread and a rollback count
abbrev pub one_spread : Counts
one_spread = record { evaluated = 0; spread = 1; rolled = 0 }

abbrev pub one_rolled : Counts
one_rolled = record { evaluated = 0; spread = 0; rolled = 1 }

module _ (h g : Hand) (is : IsKept h (view_of h)) (tag : g.tag ≡ h.tag) (made : g.made ≡ h.made) (held : g.held ≡ h.held) where
  pub kept_spread : (o : ℕ) (w : OpWord) → g.counts.evaluated ≡ min (h.counts.evaluated + 0) (2 ^ 64 - 1) → g.counts.spread ≡ min (h.counts.spread + 1) (2 ^ 64 - 1)
      → g.counts.rolled ≡ min (h.counts.rolled + 0) (2 ^ 64 - 1)
      → HasNoted h.journal g.journal (SpreadStep o (last_op 0 (view_of h).notes)) → IsKept g (spreading o w (view_of h))
  kept_spread o w e s r noted = record {
    worker = is.worker;
    counted = is.counted;
    tag = tag ∙ is.tag;
    made = made ∙ is.made;
    held = ap held_of held ∙ is.held;
    fits = λ k same. is.fits k (sym held ∙ same);
    counts = counts_more g.counts h.counts one_spread (SpreadStep o (last_op 0 (view_of h).notes)) (view_of h).events refl is.counts e s r;
    journal = journal_step (spreading o w (view_of h)) (SpreadStep o (last_op 0 (view_of h).notes)) is.journal noted refl refl refl refl refl;
  }

  pub kept_rolled : (o a : ℕ) → g.counts.evaluated ≡ min (h.counts.evaluated + 0) (2 ^ 64 - 1) → g.counts.spread ≡ min (h.counts.spread + 0) (2 ^ 64 - 1)
      → g.counts.rolled ≡ min (h.counts.rolled + 1) (2 ^ 64 - 1)
      → HasNoted h.journal g.journal (RollBack o (last_place 0 (view_of h).records)) → IsKept g (rolling_back o a (view_of h))
  kept_rolled o a e s r noted = record {
    worker = is.worker;
    counted = is.counted;
    tag = tag ∙ is.tag;
    made = made ∙ is.made;
    held = ap held_of held ∙ is.held;
    fits = λ k same. is.fits k (sym held ∙ same);
    counts = counts_more g.counts h.counts one_rolled (RollBack o (last_place 0 (view_of h).records)) (view_of h).events refl is.counts e s r;
    journal = journal_step (rolling_back o a (view_of h)) (RollBack o (last_place 0 (view_of h).records)) is.journal noted refl refl refl refl refl;
  }

-- the word that is left is one
pub word_rolled : (a cap : ℕ) → a ≤ cap → cap < most_attempts → IsWord (blocked (a + 1))
word_rolled a cap most small = record {
  small = omega arith;
  first = omega arith;
  last = omega (arith, most, small);
  blank = λ e. refl;
  by_worker = λ e. absurd (false≢true e);
  by_none = λ e. refl;
}

pub word_spread : (w : OpWord) (cap x : ℕ) → IsWord w → w.attempt < cap → cap < most_attempts → x ≤ MAX → IsWord (spread (w.attempt + 1) x)
word_spread w cap x is below small value = record {
  small = value;
  first = omega arith;
  last = omega (arith, below, small);
  blank = λ e. absurd (false≢true e);
  by_worker = λ e. absurd (false≢true e);
  by_none = λ e. refl;
}
