-- An operation is judged: by its word, then by its records and sources, then by its word again.
use Rattle.std.proofs.Common.{◌≡◌, ◌≢◌, ◌⊎◌, ℕ, ◌<◌, Bool, true, false, List, [], ◌∷◌, ◌++◌, refl, sym, ap, ◌∙◌, subst, inl, inr, arith, Option, Some, None, map, if◌then◌else◌}
use Rattle.std.specs.Prelude.{Contains, slice_index}
use Rattle.std.proofs.lemmas.Bool.{false≢true, cases_lt}
use Rattle.std.proofs.lemmas.List.Elements.{Contains-append_right, Contains-append_cases}
use Rattle.morph_base.specs.declared.plan.Plan.{Plan}
use Rattle.morph_base.specs.declared.word.OpState.{OpState}
use Rattle.morph_base.specs.declared.word.OpState.TheVariants.{Blocked, Ready, Claimed, Executed, Failed, Spread, Settled, SettledAborted}
use Rattle.morph_base.specs.declared.word.OpWord.{OpWord}
use Rattle.morph_base.specs.Functions.{value_of}
use Rattle.morph_base.specs.Clean.{from, source, outcome}
use Rattle.morph_base.specs.Plans.{IsPlan, op_at, op_count, origin_at, origins_of, final}
use Rattle.morph_base.specs.Words.{is_settled, is_failed}
use Rattle.interleaving_core.specs.Core.{ended, has_run, places}
use Rattle.interleaving_core.proofs.Settlement.{executed_answer}
use Rattle.interleaving_core.proofs.Sources.{sources_are}
use Rattle.op_words.specs.declared.answers.Stop.{Stop}
use Rattle.op_words.specs.declared.answers.Verdict.{Verdict}
use Rattle.op_words.specs.declared.answers.Verdict.TheVariants.{Good, Bad, Stale, Unready}
use Rattle.op_words.specs.declared.board.Board.{Board}
use Rattle.op_words.specs.declared.board.Hand.{Hand}
use Rattle.op_words.specs.declared.trail.Item.{Item}
use Rattle.op_words.specs.declared.trail.View.{View}
use Rattle.op_words.specs.Trails.{loaded, OfSources, HasLast, NoneOwn}
use Rattle.op_words.specs.Views.{IsJudged, IsRecordSeen, IsSourceSeen, Adds, last_place}
use Rattle.op_words.specs.Calls.{IsSettledRead}
use Rattle.op_words.specs.Plays.{IsRunResult, IsSight}
use Rattle.op_words.specs.Judging.{verdict_of, IsStaleAt, IsStaleSeen, IsGood, IsGoodAt, IsBad, VerdictTells}
use Rattle.op_words.specs.Hands.{plan_of, cap_of, view_of, call_on, IsHandOf}
use Rattle.op_words.specs.Stepping.{Looked, IsWalk}
use Rattle.op_words.specs.Comparing.{difference_at, OfReads, IsEqualAt, IsOtherAt, IsStoppedAt, IsJudgedAs}
use Rattle.op_words.proofs.Rows.{one_inside}
use Rattle.op_words.proofs.Trailing.{last_later}
use Rattle.op_words.proofs.Adding.{adds_then, adds_look, free_apart, last_one, none_one}
use Rattle.op_words.proofs.Making.{last_else, found_disturbed, none_elsewhere, none_then}
use Rattle.op_words.proofs.Comparing.{read_left, read_right, seen_more}

pub run_unsettled : (s : OpState) → has_run s ≡ true → is_settled s ≡ false
run_unsettled Blocked is = refl
run_unsettled Ready is = refl
run_unsettled Claimed is = refl
run_unsettled Executed is = refl
run_unsettled Failed is = refl
run_unsettled Spread is = refl
run_unsettled Settled is = absurd (false≢true is)
run_unsettled SettledAborted is = absurd (false≢true is)

failed_answer : (a : ℕ) (xs : List ℕ) (r : Option ℕ) (w : OpWord) → w ≡ ended a xs r → w.state ≡ Failed → r ≡ None
failed_answer a xs None w is state = refl
failed_answer a xs (Some v) w is state = absurd (apart (sym (ap (λ (x : OpWord). x.state) is) ∙ state))
  where
    apart : Executed ≡ Failed → ⊥
    apart same = cc

run_cases : (s : OpState) → has_run s ≡ true → ((is_failed s ≡ false) × (s ≡ Executed)) ⊎ ((is_failed s ≡ true) × (s ≡ Failed))
run_cases Blocked is = absurd (false≢true is)
run_cases Ready is = absurd (false≢true is)
run_cases Claimed is = absurd (false≢true is)
run_cases Executed is = inl (refl, refl)
run_cases Failed is = inr (refl, refl)
run_cases Spread is = absurd (false≢true is)
run_cases Settled is = absurd (false≢true is)
run_cases SettledAborted is = absurd (false≢true is)

-- the parts of a stale verdict
abbrev place_in : Verdict → ℕ
place_in (Stale j kept value) = j
place_in (Good x) = 0
place_in Bad = 0
place_in (Unready at w) = 0

abbrev kept_in : Verdict → ℕ
kept_in (Stale j kept value) = kept
kept_in (Good x) = 0
kept_in Bad = 0
kept_in (Unready at w) = 0

abbrev value_in : Verdict → ℕ
value_in (Stale j kept value) = value
value_in (Good x) = 0
value_in Bad = 0
value_in (Unready at w) = 0

-- what a present word tells, for the board's plan and cap
pub sight_of : (b : Board) (p : Plan) (o : ℕ) (h g : Hand) (w : OpWord) → IsHandOf b h → p ≡ plan_of b → Looked (call_on b h g) o w → IsSight p (cap_of b) (view_of h) o w
sight_of b p o h g w is plan did = subst (λ (z : Plan × ℕ). IsSight z.0 z.1 (view_of h) o w) (λ i. ((is.plan ∙ sym plan) i, is.cap i)) did.tells.sight

-- a record that differs from its settled source, under a word that was loaded again
pub stale_again : (b : Board) (p : Plan) (o : ℕ) → p ≡ plan_of b → (v : View) (k m : Hand) (front : List Item) → IsHandOf b k → (view_of k).claim ≡ None → Adds v (view_of k) front → (z : OpWord) → Looked (call_on b k m) o z
    → has_run z.state ≡ true → (j kept value : ℕ) {xs : List Item} → IsOtherAt p o z xs (view_of k) (difference_at j kept value) → IsSettledRead front (origin_at p o j) value
    → IsStaleAt p (cap_of b) o v (view_of m) (front ++ loaded o z ∷ []) z j kept value
stale_again b p o plan v k m front hand free adds z again ran j kept value {xs} at read = record {
  last = last_later front (last_one (loaded o z) (loaded o z ∷ []) refl);
  seen = Contains-append_right front (loaded o z ∷ []) (loaded o z) (0, omega arith, refl);
  ran = ran;
  in_places = at.in_places;
  below =
      elim (cases_lt (cap_of b) z.attempt) [
        | inr few ↦ few
        | inl many ↦
            let most = sight.most in
            let right = run.last (omega (arith, most, many)) j value at.in_places at.right.seen in
            absurd (at.differs (run.records j kept at.in_places at.recorded ∙ sym right))
      ];
  source = read_left front (loaded o z ∷ []) (origin_at p o j) value read;
  differs = at.differs;
  kept_is = adds_again.records _ at.recorded;
  alike = λ x seen. run.records j x at.in_places (adds.records _ seen) ∙ sym (run.records j kept at.in_places at.recorded);
}
  where
    sight : IsSight p (cap_of b) (view_of k) o z
    sight = sight_of b p o k m z hand plan again

    run : IsRunResult p (cap_of b) (view_of k) o z
    run = sight.run ran

    adds_again : Adds (view_of k) (view_of m) (loaded o z ∷ [])
    adds_again = subst (λ (u : View). Adds (view_of k) u (loaded o z ∷ [])) (sym again.view) (adds_look o _ (view_of k) z (free_apart (view_of k) o free) again.tells)

module _ (b : Board) (p : Plan) (o : ℕ) (plan : p ≡ plan_of b) (lt : o < op_count p) (h g : Hand) (w : OpWord) (hand : IsHandOf b h) (free : (view_of h).claim ≡ None) (did : Looked (call_on b h g) o w) where
  abbrev cap : ℕ
  cap = cap_of b

  adds_first : Adds (view_of h) (view_of g) (loaded o w ∷ [])
  adds_first = subst (λ (u : View). Adds (view_of h) u (loaded o w ∷ [])) (sym did.view) (adds_look o _ (view_of h) w (free_apart (view_of h) o free) did.tells)

  free_next : (view_of g).claim ≡ None
  free_next = ap (λ (v : View). v.claim) did.view ∙ free

  stays_first : (view_of g).events ≡ (view_of h).events
  stays_first = ap (λ (v : View). v.events) did.view

  last_first : HasLast o (loaded o w ∷ []) w
  last_first = last_one (loaded o w) (loaded o w ∷ []) refl

  not_stale : (at : ℕ) (z : OpWord) (j kept value : ℕ) → Unready at z ≡ Stale j kept value → ⊥
  not_stale at z j kept value same = cc

  not_good : (at : ℕ) (z : OpWord) (x : ℕ) → Unready at z ≡ Good x → ⊥
  not_good at z x same = cc

  -- its word is neither executed nor failed
  pub judged_idle : has_run w.state ≡ false → IsJudgedAs (call_on b h g) p cap o w (Unready o w)
  judged_idle idle = record {
    hand = did.hand;
    words = loaded o w ∷ [];
    goes = record { adds = adds_first; free = free_next };
    none = none_one o w;
    reads = λ t inside. inl (sym (ap (λ (x : Item). x.op) (one_inside (loaded o w) t inside)));
    first = w;
    rest = [];
    begins = refl;
    stays = stays_first;
    tells = inl (refl, record { last = last_first; seen = (0, omega arith, refl); cause = inl idle; spread = (sight_of b p o h g w hand plan did).spread });
    stale = λ j kept value same. absurd (not_stale o w j kept value same);
    stale_seen = λ j kept value same. absurd (not_stale o w j kept value same);
    good = λ x same. absurd (not_good o w x same);
  }

  -- its sources and records were loaded
  module _ (ran : has_run w.state ≡ true) (k : Hand) (xs : List Item) (walk : IsWalk (call_on b g k) o xs) (sources : OfSources p o xs) where
    abbrev front : List Item
    front = loaded o w ∷ xs

    adds_front : Adds (view_of h) (view_of k) front
    adds_front = adds_then adds_first walk.adds

    free_front : (view_of k).claim ≡ None
    free_front = walk.claim ∙ free_next

    stays_front : (view_of k).events ≡ (view_of h).events
    stays_front = walk.events ∙ stays_first

    last_front : HasLast o front w
    last_front = last_else o (loaded o w ∷ []) xs w last_first walk.elsewhere

    none_front : NoneOwn front
    none_front = none_then (loaded o w ∷ []) xs (none_one o w) (none_elsewhere o xs walk.elsewhere)

    reads_front : OfReads p o front
    reads_front t inside =
        elim (Contains-append_cases (loaded o w ∷ []) xs t inside) [
          | inl here ↦ inl (sym (ap (λ (x : Item). x.op) (one_inside (loaded o w) t here)))
          | inr later ↦ inr (sources t later)
        ]

    -- a source is not settled
    pub judged_open : (stop : Stop) → stop.source ≢ o → IsStoppedAt p o xs stop → IsJudgedAs (call_on b h k) p cap o w (Unready stop.source stop.word)
    judged_open stop other at = record {
      hand = walk.hand;
      words = front;
      goes = record { adds = adds_front; free = free_front };
      none = none_front;
      reads = reads_front;
      first = w;
      rest = xs;
      begins = refl;
      stays = stays_front;
      tells = inr (
        other,
        record {
          source = at.source;
          inside = Contains-append_right (loaded o w ∷ []) xs (loaded stop.source stop.word) at.inside;
          settled = at.settled;
          own = w;
          last = last_front;
          open_own = run_unsettled w.state ran;
        },
      );
      stale = λ j kept value same. absurd (not_stale stop.source stop.word j kept value same);
      stale_seen = λ j kept value same. absurd (not_stale stop.source stop.word j kept value same);
      good = λ x same. absurd (not_good stop.source stop.word x same);
    }

    -- the word was loaded again
    module _ (m : Hand) (z : OpWord) (again : Looked (call_on b k m) o z) where
      abbrev all : List Item
      all = front ++ loaded o z ∷ []

      adds_again : Adds (view_of k) (view_of m) (loaded o z ∷ [])
      adds_again = subst (λ (u : View). Adds (view_of k) u (loaded o z ∷ [])) (sym again.view) (adds_look o _ (view_of k) z (free_apart (view_of k) o free_front) again.tells)

      adds_all : Adds (view_of h) (view_of m) (front ++ loaded o z ∷ [])
      adds_all = adds_then adds_front adds_again

      last_all : HasLast o (front ++ loaded o z ∷ []) z
      last_all = last_later front (last_one (loaded o z) (loaded o z ∷ []) refl)

      seen_all : Contains (front ++ loaded o z ∷ []) (loaded o z)
      seen_all = Contains-append_right front (loaded o z ∷ []) (loaded o z) (0, omega arith, refl)

      reads_all : OfReads p o (front ++ loaded o z ∷ [])
      reads_all t inside =
          elim (Contains-append_cases front (loaded o z ∷ []) t inside) [
            | inl here ↦ reads_front t here
            | inr later ↦ inl (sym (ap (λ (x : Item). x.op) (one_inside (loaded o z) t later)))
          ]

      judged_with : (r : Verdict) → VerdictTells p cap o (view_of h) (view_of m) (front ++ loaded o z ∷ []) r
          → ((j kept value : ℕ) → r ≡ Stale j kept value → IsStaleAt p cap o (view_of h) (view_of m) (front ++ loaded o z ∷ []) z j kept value × IsStaleSeen p cap (view_of m) o z j)
          → ((x : ℕ) → r ≡ Good x → IsGoodAt p (view_of m) o z) → IsJudgedAs (call_on b h m) p cap o z r
      judged_with r tells stale good = record {
        hand = again.hand;
        words = all;
        goes = record { adds = adds_all; free = ap (λ (v : View). v.claim) again.view ∙ free_front };
        none = none_then front (loaded o z ∷ []) none_front (none_one o z);
        reads = reads_all;
        first = w;
        rest = xs ++ loaded o z ∷ [];
        begins = refl;
        stays = ap (λ (v : View). v.events) again.view ∙ stays_front;
        tells = tells;
        stale = λ j kept value same. (stale j kept value same).0;
        stale_seen = λ j kept value same. (stale j kept value same).1;
        good = λ x same. (last_all, good x same);
      }

      judged_changed : z ≢ w → IsJudgedAs (call_on b h m) p cap o z (Unready o z)
      judged_changed other =
          judged_with (Unready o z)
          (inl (refl, record { last = last_all; seen = seen_all; cause = inr (found_disturbed o front w z last_front other); spread = (sight_of b p o k m z walk.hand plan again).spread }))
          (λ j kept value same. absurd (not_stale o z j kept value same)) (λ x same. absurd (not_good o z x same))

      module _ (same : z ≡ w) where
        ran_again : has_run z.state ≡ true
        ran_again = ap (λ (x : OpWord). has_run x.state) same ∙ ran

        run : IsRunResult p cap (view_of k) o z
        run = (sight_of b p o k m z walk.hand plan again).run ran_again

        -- all records are right
        module _ (equal : (j : ℕ) → j < places p o → IsEqualAt p o w (view_of k) j) where
          value_at : (j : ℕ) → j < places p o → source p (final p) o j ≡ slice_index run.values j
          value_at j below = run.records j (source p (final p) o j) below (subst (λ (x : OpWord). IsRecordSeen (view_of k) o j x (source p (final p) o j)) (sym same) (equal j below).recorded)

          judged : IsJudged p (view_of m) o z
          judged = record {
            ran = ran_again;
            values = run.values;
            records = record {
              len = run.len;
              each = λ j below. subst (IsRecordSeen (view_of m) o j z) (value_at j below) (subst (λ (x : OpWord). IsRecordSeen (view_of m) o j x (source p (final p) o j)) (sym same) (adds_again.records _ (equal j below).recorded));
            };
            sources = λ j below. subst (IsSourceSeen (view_of m) (origin_at p o j)) (value_at j below) (seen_more adds_again (origin_at p o j) (source p (final p) o j) (equal j below).seen);
          }

          word_is : z ≡ ended z.attempt run.values (outcome p (final p) o)
          word_is =
              let values : map (from (final p)) (origins_of p o) ≡ run.values = sources_are p (final p) o run.values valid lt run.len (λ j below. sym (value_at j below)) in
              run.word_is ∙ ap (λ (ys : List ℕ). ended z.attempt run.values (value_of (op_at p o).op ys)) (sym values)
            where
              valid : IsPlan p
              valid = subst IsPlan (sym plan) hand.valid

          pub judged_equal : IsJudgedAs (call_on b h m) p cap o z (verdict_of w)
          judged_equal =
              elim (run_cases w.state ran) [
                | inl executed ↦
                    let state : z.state ≡ Executed = ap (λ (x : OpWord). x.state) same ∙ executed.1 in
                    let good : IsGood p cap o (view_of h) (view_of m) (front ++ loaded o z ∷ []) w.value = record {
                      word = z;
                      last = last_all;
                      state_is = state;
                      judged = judged;
                      value_is = ap (λ (x : OpWord). x.value) same;
                      answer = executed_answer z.attempt run.values (outcome p (final p) o) z word_is state ∙ ap (λ (x : OpWord). Some x.value) same;
                    } in
                    subst (IsJudgedAs (call_on b h m) p cap o z) (sym (ap (λ (f : Bool). if f then Bad else Good w.value) executed.0)) (judged_with (Good w.value) good (λ j kept value e. absurd (good_stale w.value j kept value e)) (λ x e. good_at state))
                | inr fails ↦
                    let state : z.state ≡ Failed = ap (λ (x : OpWord). x.state) same ∙ fails.1 in
                    let bad : IsBad p cap o (view_of h) (view_of m) (front ++ loaded o z ∷ []) = record {
                      word = z;
                      last = last_all;
                      state_is = state;
                      judged = judged;
                      answer = failed_answer z.attempt run.values (outcome p (final p) o) z word_is state;
                    } in
                    subst (IsJudgedAs (call_on b h m) p cap o z) (sym (ap (λ (f : Bool). if f then Bad else Good w.value) fails.0)) (judged_with Bad bad (λ j kept value e. absurd (bad_stale j kept value e)) (λ x e. absurd (bad_good x e)))
              ]
            where
              good_stale : (x j kept value : ℕ) → Good x ≡ Stale j kept value → ⊥
              good_stale x j kept value e = cc

              bad_stale : (j kept value : ℕ) → Bad ≡ Stale j kept value → ⊥
              bad_stale j kept value e = cc

              bad_good : (x : ℕ) → Bad ≡ Good x → ⊥
              bad_good x e = cc

              good_at : z.state ≡ Executed → IsGoodAt p (view_of m) o z
              good_at state = record {
                in_range = again.tells.is_word;
                executed = state;
                sources = λ j below. seen_more adds_again (origin_at p o j) (source p (final p) o j) (equal j below).seen;
                records = λ j below. subst (λ (x : OpWord). IsRecordSeen (view_of m) o j x (source p (final p) o j)) (sym same) (adds_again.records _ (equal j below).recorded);
              }

        -- a record is another one
        pub judged_stale : (j kept value : ℕ) → IsOtherAt p o w xs (view_of k) (difference_at j kept value) → IsJudgedAs (call_on b h m) p cap o z (Stale j kept value)
        judged_stale j kept value at = judged_with (Stale j kept value) (record { word = z; stale = stale }) (λ n y x e. same_stale n y x e) (λ x e. absurd (stale_good x e))
          where
            stale : IsStaleAt p cap o (view_of h) (view_of m) (front ++ loaded o z ∷ []) z j kept value
            stale =
                stale_again b p o plan (view_of h) k m front walk.hand free_front adds_front z again ran_again j kept value (subst (λ (x : OpWord). IsOtherAt p o x xs (view_of k) (difference_at j kept value)) (sym same) at)
                (read_right (loaded o w ∷ []) xs (origin_at p o j) value at.right.read)

            stale_good : (x : ℕ) → Stale j kept value ≡ Good x → ⊥
            stale_good x e = cc

            seen : IsStaleSeen p cap (view_of m) o z j
            seen = record {
              in_range = again.tells.is_word;
              ran = ran_again;
              below = stale.below;
              in_places = at.in_places;
              kept = kept;
              record_is = stale.kept_is;
              value = value;
              source = seen_more adds_again (origin_at p o j) value at.right.seen;
              differs = at.differs;
              noted = ap (λ (u : View). last_place 0 u.records) again.view ∙ at.noted;
            }

            same_stale : (n y x : ℕ) → Stale j kept value ≡ Stale n y x → IsStaleAt p cap o (view_of h) (view_of m) (front ++ loaded o z ∷ []) z n y x × IsStaleSeen p cap (view_of m) o z n
            same_stale n y x e =
                subst (λ (t : ℕ × ℕ × ℕ). IsStaleAt p cap o (view_of h) (view_of m) (front ++ loaded o z ∷ []) z t.0 t.1 t.2 × IsStaleSeen p cap (view_of m) o z t.0) (λ i. (ap place_in e i, ap kept_in e i, ap value_in e i)) (stale, seen)

      -- the verdict stands, or the word changed
      pub judged_again : (v r : Verdict) → ((z ≡ w) × (r ≡ v)) ⊎ ((z ≢ w) × (r ≡ Unready o z)) → (z ≡ w → IsJudgedAs (call_on b h m) p cap o z v) → IsJudgedAs (call_on b h m) p cap o z r
      judged_again v r cases stands =
          elim cases [
            | inl same ↦ subst (IsJudgedAs (call_on b h m) p cap o z) (sym same.1) (stands same.0)
            | inr other ↦ subst (IsJudgedAs (call_on b h m) p cap o z) (sym other.1) (judged_changed other.0)
          ]
