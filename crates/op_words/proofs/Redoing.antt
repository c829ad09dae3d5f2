-- What `redo` answers, from what its loads and steps showed.
use Rattle.std.proofs.Common.{◌≡◌, ◌≢◌, ℕ, ◌+◌, ◌<◌, ◌≤◌, true, List, [], ◌∷◌, ◌++◌, refl, sym, ap, ◌∙◌, subst, inl, inr, Option, Some, None}
use Rattle.std.specs.Prelude.{Ok, Err, slice_index}
use Rattle.std.proofs.lemmas.Bool.{false≢true}
use Rattle.morph_base.specs.declared.limits.TheConstants.{MAX}
use Rattle.morph_base.specs.declared.plan.Plan.{Plan}
use Rattle.morph_base.specs.declared.plan.Origin.{Origin}
use Rattle.morph_base.specs.declared.plan.Origin.TheVariants.{Base, Op as Written}
use Rattle.morph_base.specs.declared.word.OpState.{OpState}
use Rattle.morph_base.specs.declared.word.OpState.TheVariants.{Blocked, Ready, Claimed, Executed, Failed, Spread, Settled, SettledAborted}
use Rattle.morph_base.specs.declared.word.OpWord.{OpWord}
use Rattle.morph_base.specs.Clean.{from, source, outcome}
use Rattle.morph_base.specs.Functions.{value_of}
use Rattle.morph_base.specs.Plans.{IsPlan, op_at, op_count, origin_at, final}
use Rattle.morph_base.specs.Words.{IsWord, is_evaluated}
use Rattle.morph_base.proofs.BoundLaws.{value_of-small}
use Rattle.interleaving_core.specs.declared.event.CoreEvent.{CoreEvent}
use Rattle.interleaving_core.specs.declared.event.CoreEvent.TheVariants.{Ready as ReadyStep, RollBack}
use Rattle.interleaving_core.specs.Core.{blocked, ready, claimed, ended, has_run, places}
use Rattle.interleaving_core.proofs.Sources.{sources_are}
use Rattle.op_words.specs.declared.answers.Outcome.{Outcome}
use Rattle.op_words.specs.declared.answers.Outcome.TheVariants.{Executed as ExecutedTo, Failed as HasFailed}
use Rattle.op_words.specs.declared.answers.Redone.{Redone}
use Rattle.op_words.specs.declared.answers.Redone.TheVariants.{Good, Bad, Open, Busy}
use Rattle.op_words.specs.declared.answers.Stop.{Stop}
use Rattle.op_words.specs.declared.board.Board.{Board}
use Rattle.op_words.specs.declared.board.Hand.{Hand}
use Rattle.op_words.specs.declared.board.Holding.{Holding}
use Rattle.op_words.specs.declared.trail.Item.{Item}
use Rattle.op_words.specs.declared.trail.View.{View}
use Rattle.op_words.specs.Trails.{loaded, left, IsSourceOf, NoneOwn, OwnOn, OwnOpen}
use Rattle.op_words.specs.Views.{Agrees, Adds, IsRecordSeen, IsSourceSeen, last_place, rolling_back}
use Rattle.op_words.specs.Attempts.{ran_steps}
use Rattle.op_words.specs.Calls.{answer_of}
use Rattle.op_words.specs.Judging.{IsAnswerSeen, IsStaleSeen}
use Rattle.op_words.specs.Redoing.{IsRedone, RedoTells, RedoDoes}
use Rattle.op_words.specs.Values.{AreLoaded, AreUsable, TakeUpDoes}
use Rattle.op_words.specs.Hands.{cap_of, view_of, call_on, fetched_of, HasHeldValues}
use Rattle.op_words.specs.Stepping.{Looked, Left, IsRow}
use Rattle.op_words.specs.Grounds.{HasGroundsToRoll, AreSourcesSettled, IsSourceUnready}
use Rattle.op_words.proofs.Seeking.{row_claim}
use Rattle.op_words.proofs.Adding.{adds_then, adds_look, free_apart, none_one}
use Rattle.op_words.proofs.Making.{adds_leave, none_elsewhere, none_then, own_none, open_none}
use Rattle.op_words.proofs.Comparing.{seen_more, loaded_seen}
use Rattle.op_words.proofs.Attempting.{usable_loaded, usable_more, own_first, open_first, own_behind, open_behind, own_taken_up, open_taken_up}

run_evaluated : (s : OpState) → has_run s ≡ true → is_evaluated s ≡ true
run_evaluated Blocked ran = ran
run_evaluated Ready ran = ran
run_evaluated Claimed ran = ran
run_evaluated Executed ran = ran
run_evaluated Failed ran = ran
run_evaluated Spread ran = absurd (false≢true ran)
run_evaluated Settled ran = ran
run_evaluated SettledAborted ran = ran

-- two settled values of a source that were seen are the same
same_seen : (v : View) → Agrees v → (q : Origin) (x y : ℕ) → IsSourceSeen v q x → IsSourceSeen v q y → x ≡ y
same_seen v agree (Base c) x y one two = sym one ∙ two
same_seen v agree (Written s) x y one two =
    let same = agree one.seen.note two.seen.note one.seen.inside two.seen.inside (one.seen.op_is ∙ sym two.seen.op_is) one.seen.settled two.seen.settled in
    sym one.value_is ∙ ap (λ (w : OpWord). w.value) same ∙ two.value_is

-- what the function gave, by the outcome
pub gave_value : (r : Option ℕ) (x : ℕ) → answer_of r ≡ ExecutedTo x → r ≡ Some x
gave_value (Some y) x is = ap Some (executed_value is)
  where
    executed_value : ExecutedTo y ≡ ExecutedTo x → y ≡ x
    executed_value same = cc
gave_value None x is = absurd (apart is)
  where
    apart : HasFailed ≡ ExecutedTo x → ⊥
    apart same = cc

pub gave_nothing : (r : Option ℕ) → answer_of r ≡ HasFailed → r ≡ None
gave_nothing None is = refl
gave_nothing (Some y) is = absurd (apart is)
  where
    apart : ExecutedTo y ≡ HasFailed → ⊥
    apart same = cc

-- a value that the function gave on the values that were put down
pub value_small : (p : Plan) (o : ℕ) (found : Holding) (x : ℕ) → IsPlan p → o < op_count p → HasHeldValues found → value_of (op_at p o).op (fetched_of found) ≡ Some x → x ≤ MAX
value_small p o found x valid lt fits gave = value_of-small (op_at p o).op (fetched_of found) x gave (valid.numbering.shaped o lt) fits.small

module _ (b : Board) (p : Plan) (o : ℕ) (w : OpWord) (j : ℕ) (h g : Hand) (free : (view_of h).claim ≡ None) (row : List Item) (did : IsRow (call_on b h g) o row) where
  abbrev cap : ℕ
  cap = cap_of b

  abbrev next : ℕ
  next = w.attempt + 1

  none_row : NoneOwn row
  none_row = none_elsewhere o row did.elsewhere

  free_row : (view_of g).claim ≡ None
  free_row = row_claim b o did ∙ free

  stays_row : (view_of g).events ≡ (view_of h).events
  stays_row = ap (λ (v : View). v.events) did.view

  -- a source is not settled
  pub kept_open : (stop : Stop) → IsSourceOf p o stop.source → IsSourceUnready row true stop → RedoDoes p o w j (view_of h) (view_of g) (Open stop.source stop.word)
  kept_open stop source unready = record {
    words = row;
    goes = record { adds = did.adds; free = free_row };
    own = own_none o row none_row;
    open_own = open_none row none_row;
    tells = record { elsewhere = did.elsewhere; source = source; inside = unready.inside; settled = unready.settled; stays = stays_row };
  }

  -- another word was found than the stale one
  pub cut_first : (k : Hand) (z : OpWord) → z ≢ w → Looked (call_on b g k) o z → RedoDoes p o w j (view_of h) (view_of k) (Busy z)
  cut_first k z other found =
      let none_all = none_then row (loaded o z ∷ []) none_row (none_one o z) in
      record {
        words = row ++ loaded o z ∷ [];
        goes = record {
          adds = adds_then did.adds (subst (λ (u : View). Adds (view_of g) u (loaded o z ∷ [])) (sym found.view) (adds_look o _ (view_of g) z (free_apart (view_of g) o free_row) found.tells));
          free = ap (λ (u : View). u.claim) found.view ∙ free_row;
        };
        own = own_none o (row ++ loaded o z ∷ []) none_all;
        open_own = open_none (row ++ loaded o z ∷ []) none_all;
        tells = record {
          row = row;
          elsewhere = did.elsewhere;
          own = [];
          taken = [];
          known = w;
          way = inl (refl, refl, refl);
          differs = other;
          words_are = refl;
          steps = ap (λ (u : View). u.events) found.view ∙ stays_row;
        };
      }

  -- all sources are settled
  module _ (stale : IsStaleSeen p (cap_of b) (view_of h) o w j) (values : List ℕ) (read : AreLoaded p o true (places p o) row values) where
    seen_value : (k : ℕ) → k < places p o → IsSourceSeen (view_of g) (origin_at p o k) (slice_index values k)
    seen_value k lt = loaded_seen b o h g row did (origin_at p o k) (slice_index values k) (read k lt).read

    usable_next : AreUsable p (cap_of b) o (w.attempt + 1) (view_of g) values
    usable_next = usable_loaded b p cap o next true h g row values did (λ last. refl) read

    all_settled : AreSourcesSettled p o (view_of g)
    all_settled s from =
        let seen = subst (λ (q : Origin). IsSourceSeen (view_of g) q (slice_index values from.place)) from.source_is (seen_value from.place from.in_places) in
        seen.seen

    other_value : stale.kept ≢ slice_index values j
    other_value same =
        let one = same_seen (view_of g) did.hand.told.agree (origin_at p o j) stale.value (slice_index values j) (seen_more did.adds (origin_at p o j) stale.value stale.source) (seen_value j stale.in_places) in
        stale.differs (same ∙ sym one)

    pub place_loaded : last_place 0 (view_of g).records ≡ j
    place_loaded = ap (λ (u : View). last_place 0 u.records) did.view ∙ stale.noted

    pub grounds_redo : HasGroundsToRoll p (cap_of b) o (view_of g) w (last_place 0 (view_of g).records)
    grounds_redo = subst (HasGroundsToRoll p cap o (view_of g) w) (sym place_loaded) (record {
      in_places = stale.in_places;
      evaluated = run_evaluated w.state stale.ran;
      most = stale.below;
      kept = stale.kept;
      record_is = did.adds.records _ stale.record_is;
      cause = inl (record { version = slice_index values j; usable = usable_next j stale.in_places; differs = other_value; at_cap = λ at. all_settled });
    })

    -- it was rolled back
    module _ (k : Hand) (step : Left (call_on b g k) (rolling_back o (w.attempt + 1) (view_of g)) (left o (blocked (w.attempt + 1)))) where
      pub free_rolled : (view_of k).claim ≡ None
      free_rolled = ap (λ (u : View). u.claim) step.view ∙ free_row

      pub usable_rolled : AreUsable p (cap_of b) o (w.attempt + 1) (view_of k) values
      usable_rolled = usable_more p cap o next (view_of g) (view_of k) (left o (blocked next) ∷ []) values (ap (λ (u : View). u.notes) step.view) usable_next

      adds_rolled : Adds (view_of g) (view_of k) (left o (blocked (w.attempt + 1)) ∷ [])
      adds_rolled = subst (λ (u : View). Adds (view_of g) u (left o (blocked next) ∷ [])) (sym step.view) (adds_leave (view_of g) o (blocked next) _ step.tells)

      tag_rolled : (view_of k).tag ≡ (view_of h).tag
      tag_rolled = adds_rolled.tag ∙ did.adds.tag

      events_rolled : (view_of k).events ≡ RollBack o j ∷ (view_of h).events
      events_rolled = ap (λ (u : View). u.events) step.view ∙ ap (λ n. RollBack o n ∷ (view_of g).events) place_loaded ∙ ap (λ (es : List CoreEvent). RollBack o j ∷ es) stays_row

      module _ (m : Hand) (free_now : (view_of m).claim ≡ None) where
        redone_as : (r : Redone) (words : List Item) → Adds (view_of k) (view_of m) words → OwnOn o words → OwnOpen words
            → RedoTells p o w j (view_of h) (view_of m) (row ++ (left o (blocked (w.attempt + 1)) ∷ words)) r → RedoDoes p o w j (view_of h) (view_of m) r
        redone_as r words adds own open_own tells =
            let back : List Item = left o (blocked next) ∷ words in
            record {
              words = row ++ back;
              goes = record { adds = adds_then did.adds (adds_then adds_rolled adds); free = free_now };
              own = own_behind o row back none_row (own_first o (blocked next) words own);
              open_own = open_behind row back none_row (open_first o (blocked next) words refl open_own);
              tells = tells;
            }

        -- another word was found later
        pub cut_later : (z : OpWord) → TakeUpDoes p o (w.attempt + 1) values (view_of k) (view_of m) (Err z) → RedoDoes p o w j (view_of h) (view_of m) (Busy z)
        cut_later z does =
            redone_as (Busy z) does.words does.adds (own_taken_up p o next values (view_of k) (view_of m) (Err z) does) (open_taken_up p o next values (view_of k) (view_of m) (Err z) does)
            (elim does.tells [
              | inl other ↦ record {
                row = row;
                elsewhere = did.elsewhere;
                own = left o (blocked next) ∷ [];
                taken = RollBack o j ∷ [];
                known = blocked next;
                way = inr (inl (refl, refl, refl));
                differs = other.differs;
                words_are = ap (λ zs. row ++ (left o (blocked next) ∷ zs)) other.words_are;
                steps = other.stays ∙ events_rolled;
              }
              | inr taken ↦ record {
                row = row;
                elsewhere = did.elsewhere;
                own = left o (blocked next) ∷ left o (ready next) ∷ [];
                taken = ReadyStep o ∷ RollBack o j ∷ [];
                known = ready next;
                way = inr (inr (refl, refl, refl));
                differs = taken.differs;
                words_are = ap (λ zs. row ++ (left o (blocked next) ∷ zs)) taken.words_are;
                steps = taken.readied ∙ ap (λ (es : List CoreEvent). ReadyStep o ∷ es) events_rolled;
              }
            ])

        -- it was evaluated
        module _ (r : Outcome) (does : TakeUpDoes p o (w.attempt + 1) values (view_of k) (view_of m) (Ok r)) (valid : IsPlan p) (lt : o < op_count p) where
          seen_now : (i : ℕ) → i < places p o → IsSourceSeen (view_of m) (origin_at p o i) (slice_index values i)
          seen_now i below = seen_more (adds_then adds_rolled does.adds) (origin_at p o i) (slice_index values i) (seen_value i below)

          fold_now : (i : ℕ) → i < places p o → slice_index values i ≡ source p (final p) o i
          fold_now i below = (read i below).fold refl

          outcome_now : outcome p (final p) o ≡ value_of (op_at p o).op values
          outcome_now = ap (value_of (op_at p o).op) (sources_are p (final p) o values valid lt does.tells.evaluated.records.len fold_now)

          redone : IsRedone p o w j (view_of h) (view_of m) (row ++ (left o (blocked (w.attempt + 1)) ∷ does.words)) does.tells.word
          redone =
              let tells = does.tells in
              record {
                row = row;
                elsewhere = did.elsewhere;
                words_are = ap (λ zs. row ++ (left o (blocked next) ∷ zs)) (tells.words_are ∙ ap (λ t. left o (ready next) ∷ left o (claimed next t) ∷ left o tells.word ∷ []) tag_rolled);
                attempt_is = tells.evaluated.attempt_is;
                judged = record { ran = tells.evaluated.ran; values = values; records = tells.evaluated.records; sources = seen_now };
                steps = tells.steps ∙ ap (λ t. ran_steps o t values (view_of k).events) tag_rolled ∙ ap (ran_steps o (view_of h).tag values) events_rolled;
              }

          answer_now : (answer : Option ℕ) → value_of (op_at p o).op values ≡ answer → IsAnswerSeen p (view_of m) o answer
          answer_now answer gave = record { sources = λ i below. (slice_index values i, seen_now i below); answer_is = outcome_now ∙ gave }

          -- the word that is made of the answer is the one that was left
          word_now : (answer : Option ℕ) (z : OpWord) → value_of (op_at p o).op values ≡ answer → z ≡ ended (w.attempt + 1) values answer → does.tells.word ≡ z
          word_now answer z gave is = does.tells.evaluated.word_is ∙ ap (ended next values) gave ∙ sym is

          redone_with : (f : OpWord → Redone) (z : OpWord) → does.tells.word ≡ z
              → RedoTells p o w j (view_of h) (view_of m) (row ++ (left o (blocked (w.attempt + 1)) ∷ does.words)) (f does.tells.word) → RedoDoes p o w j (view_of h) (view_of m) (f z)
          redone_with f z same tells =
              subst (λ (y : OpWord). RedoDoes p o w j (view_of h) (view_of m) (f y)) same
              (redone_as (f does.tells.word) does.words does.adds (own_taken_up p o next values (view_of k) (view_of m) (Ok r) does) (open_taken_up p o next values (view_of k) (view_of m) (Ok r) does) tells)

          pub redone_good : (x : ℕ) (z : OpWord) → value_of (op_at p o).op values ≡ Some x → z ≡ ended (w.attempt + 1) values (Some x) → IsWord z → RedoDoes p o w j (view_of h) (view_of m) (Good z)
          redone_good x z gave is in_range =
              let same = word_now (Some x) z gave is in
              let now = same ∙ is in
              let evaluated = does.tells.evaluated in
              redone_with Good z same (record {
                redone = redone;
                good = record {
                  in_range = subst IsWord (sym same) in_range;
                  executed = ap (λ (y : OpWord). y.state) now;
                  sources = λ i below. subst (IsSourceSeen (view_of m) (origin_at p o i)) (fold_now i below) (seen_now i below);
                  records = λ i below. subst (IsRecordSeen (view_of m) o i does.tells.word) (fold_now i below) (evaluated.records.each i below);
                };
                answer = answer_now (Some does.tells.word.value) (gave ∙ ap (λ (y : OpWord). Some y.value) (sym now));
              })

          pub redone_bad : (z : OpWord) → value_of (op_at p o).op values ≡ None → z ≡ ended (w.attempt + 1) values None → RedoDoes p o w j (view_of h) (view_of m) (Bad z)
          redone_bad z gave is =
              let same = word_now None z gave is in
              redone_with Bad z same (record { redone = redone; failed = ap (λ (y : OpWord). y.state) (same ∙ is); answer = answer_now None gave })
