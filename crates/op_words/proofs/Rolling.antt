-- What `roll_back` tells, from what its steps told.
use Rattle.std.proofs.Common.{◌≡◌, ◌≢◌, ◌⊎◌, ℕ, ◌+◌, ◌<◌, ◌≤◌, Bool, true, false, List, [], ◌∷◌, ◌++◌, refl, sym, ap, ◌∙◌, subst, inl, inr, arith, None}
use Rattle.std.specs.Prelude.{Contains, Option, Ok}
use Rattle.std.proofs.lemmas.Bool.{cases_eq, false≢true}
use Rattle.std.proofs.lemmas.List.Elements.{Contains-append_left, Contains-append_right}
use Rattle.morph_base.specs.declared.plan.Plan.{Plan}
use Rattle.morph_base.specs.declared.plan.Origin.{Origin}
use Rattle.morph_base.specs.declared.plan.Origin.TheVariants.{Base, Op as Written}
use Rattle.morph_base.specs.declared.word.OpState.{OpState}
use Rattle.morph_base.specs.declared.word.OpState.TheVariants.{Blocked, Ready, Claimed, Executed, Failed, Spread, Settled, SettledAborted}
use Rattle.morph_base.specs.declared.word.OpWord.{OpWord}
use Rattle.morph_base.specs.Plans.{origin_at}
use Rattle.morph_base.specs.Words.{has_run, is_evaluated, is_idle, is_settled}
use Rattle.interleaving_core.specs.declared.event.CoreEvent.{CoreEvent}
use Rattle.interleaving_core.specs.declared.event.CoreEvent.TheVariants.{RollBack}
use Rattle.interleaving_core.specs.Core.{blocked, spread, places}
use Rattle.interleaving_core.specs.Counts.{is_roll, rolled}
use Rattle.op_words.specs.declared.answers.Rolled.TheVariants.{Done as HasRolled, Fresh, Not as Unrolled}
use Rattle.op_words.specs.declared.answers.Stop.{Stop}
use Rattle.op_words.specs.declared.board.Board.{Board}
use Rattle.op_words.specs.declared.board.Hand.{Hand}
use Rattle.op_words.specs.declared.trail.Item.{Item}
use Rattle.op_words.specs.declared.trail.View.{View}
use Rattle.op_words.specs.Trails.{loaded, left, HasLast, IsSourceOf, NoneOwn}
use Rattle.op_words.specs.Views.{Adds, IsRecordSeen, IsSourceSeen, last_place, rolling_back}
use Rattle.op_words.specs.Calls.{IsReadValue}
use Rattle.op_words.specs.Hands.{plan_of, cap_of, view_of, call_on, IsHandOf}
use Rattle.op_words.specs.Stepping.{Looked, Left, Recalled, IsWalk}
use Rattle.op_words.specs.Kinds.{IsUsable}
use Rattle.op_words.specs.Retrying.{IsSpreadAside, RollDoes}
use Rattle.op_words.specs.Grounds.{HasGroundsToRoll, AreSourcesSettled, IsSourceLoaded, SourceDoes, OpenDoes, OpenTells}
use Rattle.op_words.proofs.Retrying.{count_one, adds_first, free_next, adds_front, last_front, none_front, free_front, events_first, events_front}
use Rattle.op_words.proofs.Trailing.{last_later}
use Rattle.op_words.proofs.Adding.{adds_then, adds_look, free_apart, last_one, none_one}
use Rattle.op_words.proofs.Making.{adds_leave, found_disturbed, none_then, own_none, open_none, own_left, open_left}
use Rattle.op_words.proofs.Walking.{walk_then, walk_row, walk_recall, walk_last, look_last, recalled_seen, recalled_place}

evaluated_open : (t : OpState) → is_evaluated t ≡ true → is_settled t ≡ false
evaluated_open Blocked is = refl
evaluated_open Ready is = refl
evaluated_open Claimed is = refl
evaluated_open Executed is = refl
evaluated_open Failed is = refl
evaluated_open Spread is = refl
evaluated_open Settled is = absurd (false≢true is)
evaluated_open SettledAborted is = absurd (false≢true is)

evaluated_run : (t : OpState) → is_evaluated t ≡ true → t ≢ Spread → has_run t ≡ true
evaluated_run Blocked is other = is
evaluated_run Ready is other = is
evaluated_run Claimed is other = is
evaluated_run Executed is other = refl
evaluated_run Failed is other = refl
evaluated_run Spread is other = absurd (other refl)
evaluated_run Settled is other = is
evaluated_run SettledAborted is other = is

-- a word that was seen settled is, after words more
source_seen_more : (v u : View) (xs : List Item) → u.notes ≡ v.notes ++ xs → (q : Origin) (y : ℕ) → IsSourceSeen v q y → IsSourceSeen u q y
source_seen_more v u xs more (Base c) y is = is
source_seen_more v u xs more (Written t) y is = record {
  seen = record {
    note = is.seen.note;
    inside = subst (λ ts. Contains ts is.seen.note) (sym more) (Contains-append_left v.notes xs is.seen.note is.seen.inside);
    op_is = is.seen.op_is;
    settled = is.seen.settled;
  };
  value_is = is.value_is;
}

-- what was loaded of a source is read in a longer list, and the next attempt may read it
read_more : (xs ys : List Item) (needed : Bool) (q : Origin) (x : ℕ) → ((t : Item) → Contains xs t → Contains ys t) → IsSourceLoaded xs needed q x → IsReadValue ys q x
read_more xs ys needed (Base c) x more is = is
read_more xs ys needed (Written t) x more is = (is.word, more (loaded t is.word) is.inside, is.value_is)

usable_more : (xs : List Item) (needed : Bool) (v : View) (cap a : ℕ) (q : Origin) (x : ℕ) → ((t : Item) → Contains xs t → Contains v.notes t) → (a ≡ cap → needed ≡ true)
    → IsSourceLoaded xs needed q x → IsUsable v cap (a + 1) q x
usable_more xs needed v cap a (Base c) x noted asked is = is
usable_more xs needed v cap a (Written t) x noted asked is = record {
  word = is.word;
  inside = noted (loaded t is.word) is.inside;
  shown = is.shown;
  at_last = λ last. is.settled (asked (before last));
  value_is = is.value_is;
}
  where
    before : a + 1 ≡ cap + 1 → a ≡ cap
    before last = omega (arith, last)

module _ (b : Board) (p : Plan) (o j : ℕ) (h g : Hand) (w : OpWord) (free : (view_of h).claim ≡ None) (is : IsHandOf b h) (did : Looked (call_on b h g) o w) where
  pub not_rolled : (is_evaluated w.state ≡ false) ⊎ (cap_of b < w.attempt) → RollDoes p (cap_of b) o (view_of h) (view_of g) j (Unrolled o w)
  not_rolled other = record {
    words = loaded o w ∷ [];
    goes = record { adds = adds_first b p (cap_of b) o h g w free did; free = free_next b p (cap_of b) o h g w free did };
    own = own_none o (loaded o w ∷ []) (none_one o w);
    open_own = open_none (loaded o w ∷ []) (none_one o w);
    steps = events_first b p (cap_of b) o h g w free did;
    tells = inl (
      refl,
      record {
        last = last_one (loaded o w) (loaded o w ∷ []) refl;
        seen = (0, omega arith, refl);
        none = none_one o w;
        cause = elim other [
          | inl state ↦ inl state
          | inr above ↦ let most = did.tells.sight.most in let same = is.cap in inr (inl (omega (arith, above, most, same)))
        ];
      },
    );
  }

  module _ (evaluated : is_evaluated w.state ≡ true) {k : Hand} (xs : List Item) (walk : IsWalk (call_on b g k) o xs) where
    abbrev front : List Item
    front = loaded o w ∷ xs

    adds_now : Adds (view_of h) (view_of k) (loaded o w ∷ xs)
    adds_now = adds_front b p (cap_of b) o h g w free did xs walk

    last_now : HasLast o (loaded o w ∷ xs) w
    last_now = last_front b p (cap_of b) o h g w free did xs walk

    none_now : NoneOwn (loaded o w ∷ xs)
    none_now = none_front b p (cap_of b) o h g w free did xs walk

    free_now : (view_of k).claim ≡ None
    free_now = free_front b p (cap_of b) o h g w free did xs walk

    events_now : (view_of k).events ≡ (view_of h).events
    events_now = events_front b p (cap_of b) o h g w free did xs walk

    -- a source stopped the call
    pub source_stops : (stop : Stop) → stop.source ≢ o → IsSourceOf p o stop.source → Contains xs (loaded stop.source stop.word) → is_settled stop.word.state ≡ false
        → ((origin_at p o j ≡ Written stop.source) × (is_idle stop.word.state ≡ true)) ⊎ ((w.attempt ≡ cap_of b) ⊎ IsSpreadAside p (cap_of b) o (view_of h) (view_of k) (loaded o w ∷ xs) j w) → RollDoes p (cap_of b) o (view_of h) (view_of k) j (Unrolled stop.source stop.word)
    source_stops stop other source inside settled cause = record {
      words = front;
      goes = record { adds = adds_now; free = free_now };
      own = own_none o front none_now;
      open_own = open_none front none_now;
      steps = events_now;
      tells = inr (
        other,
        record {
          source_open = record {
            source = source;
            inside = Contains-append_right (loaded o w ∷ []) xs (loaded stop.source stop.word) inside;
            settled = settled;
            own = w;
            last = last_now;
            open_own = evaluated_open w.state evaluated;
          };
          none = none_now;
          cause = cause;
        },
      );
    }

    module _ (m : Hand) where
      -- another word was found
      pub found_unrolled : {z : OpWord} → z ≢ w → Looked (call_on b k m) o z → RollDoes p (cap_of b) o (view_of h) (view_of m) j (Unrolled o z)
      found_unrolled {z} other step = record {
        words = front ++ loaded o z ∷ [];
        goes = record {
          adds = adds_then adds_now (subst (λ (u : View). Adds (view_of k) u (loaded o z ∷ [])) (sym step.view) (adds_look o _ (view_of k) z (free_apart (view_of k) o free_now) step.tells));
          free = ap (λ (v : View). v.claim) step.view ∙ free_now;
        };
        own = own_none o (front ++ loaded o z ∷ []) (none_then front (loaded o z ∷ []) none_now (none_one o z));
        open_own = open_none (front ++ loaded o z ∷ []) (none_then front (loaded o z ∷ []) none_now (none_one o z));
        steps = ap (λ (u : View). u.events) step.view ∙ events_now;
        tells = inl (
          refl,
          record {
            last = last_later front (last_one (loaded o z) (loaded o z ∷ []) refl);
            seen = Contains-append_right front (loaded o z ∷ []) (loaded o z) (0, omega arith, refl);
            none = none_then front (loaded o z ∷ []) none_now (none_one o z);
            cause = inr (inr (found_disturbed o front w z last_now other));
          },
        );
      }

      pub rolled_done : w.attempt ≤ cap_of b → last_place 0 (view_of k).records ≡ j → Left (call_on b k m) (rolling_back o (w.attempt + 1) (view_of k)) (left o (blocked (w.attempt + 1))) → RollDoes p (cap_of b) o (view_of h) (view_of m) j HasRolled
      rolled_done most place step =
          let z : OpWord = blocked (w.attempt + 1) in
          record {
            words = front ++ left o z ∷ [];
            goes = record {
              adds = adds_then adds_now (subst (λ (u : View). Adds (view_of k) u (left o z ∷ [])) (sym step.view) (adds_leave (view_of k) o z _ step.tells));
              free = ap (λ (v : View). v.claim) step.view ∙ free_now;
            };
            own = own_left o front z none_now;
            open_own = open_left o front z refl none_now;
            steps = ap (λ (u : View). u.events) step.view ∙ ap (λ n. RollBack o n ∷ (view_of k).events) place ∙ ap (λ (es : List CoreEvent). RollBack o j ∷ es) events_now;
            tells = record {
              first = w;
              seen = (0, omega arith, refl);
              evaluated = evaluated;
              below = most;
              last = last_later front (last_one (left o z) (left o z ∷ []) refl);
              inside = Contains-append_right front (left o z ∷ []) (left o z) (0, omega arith, refl);
              counted =
                  ap (λ (u : View). rolled u.events) step.view ∙ count_one is_roll (RollBack o (last_place 0 (view_of k).records)) (view_of k).events refl
                  ∙ ap (λ es. rolled es + 1) events_now;
            };
          }

      -- the same word was found, under which the record is right
      pub found_fresh : (x : ℕ) → p ≡ plan_of b → j < places p o → w.state ≢ Spread → IsRecordSeen (view_of k) o j w x → Looked (call_on b k m) o w
          → IsReadValue (front ++ loaded o w ∷ []) (origin_at p o j) x → ((y : ℕ) → IsSourceSeen (view_of h) (origin_at p o j) y → y ≡ x) → RollDoes p (cap_of b) o (view_of h) (view_of m) j (Fresh x)
      found_fresh x plan below other seen step read known = record {
        words = front ++ loaded o w ∷ [];
        goes = record {
          adds = adds_then adds_now (subst (λ (u : View). Adds (view_of k) u (loaded o w ∷ [])) (sym step.view) (adds_look o _ (view_of k) w (free_apart (view_of k) o free_now) step.tells));
          free = ap (λ (v : View). v.claim) step.view ∙ free_now;
        };
        own = own_none o (front ++ loaded o w ∷ []) (none_then front (loaded o w ∷ []) none_now (none_one o w));
        open_own = open_none (front ++ loaded o w ∷ []) (none_then front (loaded o w ∷ []) none_now (none_one o w));
        steps = ap (λ (u : View). u.events) step.view ∙ events_now;
        tells = record {
          word = w;
          last = last_later front (last_one (loaded o w) (loaded o w ∷ []) refl);
          none = none_then front (loaded o w ∷ []) none_now (none_one o w);
          evaluated = evaluated;
          not_spread = other;
          read = read;
          recorded = subst (λ (u : View). IsRecordSeen u o j w x) (sym step.view) seen;
          record_is = λ y was.
              let run = step.tells.sight.run (evaluated_run w.state evaluated other) in
              let lt = subst (λ (q : Plan). j < places q o) (plan ∙ sym walk.hand.plan) below in
              run.records j y lt (adds_now.records _ was) ∙ sym (run.records j x lt seen);
          source_is = known;
        };
      }

-- ---- before an exchange: the source and the record were loaded, and then the sources that have to be settled

module _ (b : Board) (p : Plan) (o j : ℕ) (h g k m : Hand) (w : OpWord) (kept x : ℕ) (needed : Bool) (free : (view_of h).claim ≡ None)
    (did : Looked (call_on b h g) o w) (source_did : SourceDoes (call_on b g k) p o j needed (Ok x)) (record_did : Recalled (call_on b k m) o j kept) where
  abbrev words_source : List Item
  words_source = source_did.words

  pub walk_source : IsWalk (call_on b g m) o (source_did.words ++ [])
  walk_source = walk_then b o (walk_row b o source_did.row) (walk_recall b o source_did.row.hand record_did)

  pub record_rolled : IsRecordSeen (view_of m) o j w kept
  record_rolled = recalled_seen b o j k m kept w (walk_last b o (blocked 1) w (walk_row b o source_did.row) (look_last b o h g w (blocked 1) did)) record_did

  pub source_read : IsReadValue ((loaded o w ∷ source_did.words ++ []) ++ loaded o w ∷ []) (origin_at p o j) x
  source_read =
      read_more words_source ((loaded o w ∷ words_source ++ []) ++ loaded o w ∷ []) needed (origin_at p o j) x
      (λ t inside. Contains-append_left (loaded o w ∷ words_source ++ []) (loaded o w ∷ []) t (Contains-append_right (loaded o w ∷ []) (words_source ++ []) t (Contains-append_left words_source [] t inside)))
      source_did.tells.read

  pub source_known : (y : ℕ) → IsSourceSeen (view_of h) (origin_at p o j) y → y ≡ x
  source_known y seen = source_did.tells.known y (source_seen_more (view_of h) (view_of g) (loaded o w ∷ []) (adds_first b p (cap_of b) o h g w free did).notes (origin_at p o j) y seen)

  module _ {n : Hand} {r : Option Stop} (asked : Bool) (open_did : OpenDoes (call_on b m n) p o asked r) where
    pub walk_sources : IsWalk (call_on b g n) o ((source_did.words ++ []) ++ open_did.words)
    walk_sources = walk_then b o walk_source (walk_row b o open_did.row)

    noted_source : (t : Item) → Contains source_did.words t → Contains (view_of n).notes t
    noted_source t inside =
        subst (λ ts. Contains ts t) (sym walk_sources.adds.notes)
        (Contains-append_right (view_of g).notes ((words_source ++ []) ++ open_did.words) t (Contains-append_left (words_source ++ []) open_did.words t (Contains-append_left words_source [] t inside)))

    record_later : IsRecordSeen (view_of n) o j w kept
    record_later = open_did.row.adds.records _ record_rolled

    pub place_is : last_place 0 (view_of n).records ≡ j
    place_is = ap (λ (u : View). last_place 0 u.records) open_did.row.view ∙ recalled_place b o j k m kept record_did

    -- its record was right, and its word spread
    pub spread_aside : w.state ≡ Spread → kept ≡ x → IsSpreadAside p (cap_of b) o (view_of h) (view_of n) (loaded o w ∷ (source_did.words ++ []) ++ open_did.words) j w
    spread_aside spread same = record {
      spread = spread;
      value = x;
      read =
          read_more words_source (loaded o w ∷ (words_source ++ []) ++ open_did.words) needed (origin_at p o j) x
          (λ t inside. Contains-append_right (loaded o w ∷ []) ((words_source ++ []) ++ open_did.words) t (Contains-append_left (words_source ++ []) open_did.words t (Contains-append_left words_source [] t inside)))
          source_did.tells.read;
      recorded = subst (IsRecordSeen (view_of n) o j w) same record_later;
    }

    module _ (closed : r ≡ None) where
      sources_settled : asked ≡ true → AreSourcesSettled p o (view_of n)
      sources_settled needs s source =
          let found = (subst (λ z. OpenTells p o asked open_did.words z) closed open_did.tells) needs s source in
          record {
            note = loaded s found.0;
            inside = subst (λ ts. Contains ts (loaded s found.0)) (sym open_did.row.adds.notes) (Contains-append_right (view_of m).notes open_did.words (loaded s found.0) found.1);
            op_is = refl;
            settled = found.2;
          }

      pub grounds_roll : j < places p o → is_evaluated w.state ≡ true → w.attempt ≤ cap_of b → (w.attempt ≡ cap_of b → needed ≡ true)
          → ((w.attempt ≡ cap_of b) ⊎ (kept ≡ x) → asked ≡ true) → (kept ≢ x) ⊎ (w.state ≡ Spread) → HasGroundsToRoll p (cap_of b) o (view_of n) w (last_place 0 (view_of n).records)
      grounds_roll below evaluated most at_cap ask wrong = subst (λ i. HasGroundsToRoll p (cap_of b) o (view_of n) w i) (sym place_is) (record {
        in_places = below;
        evaluated = evaluated;
        most = most;
        kept = kept;
        record_is = record_later;
        cause = elim (cases_eq kept x) [
          | inr differs ↦ inl (record {
            version = x;
            usable = usable_more words_source needed (view_of n) (cap_of b) w.attempt (origin_at p o j) x noted_source at_cap source_did.tells.read;
            differs = differs;
            at_cap = λ at. sources_settled (ask (inl at));
          })
          | inl same ↦ inr (record { state_is = elim wrong [ inl differs ↦ absurd (differs same) | inr spread ↦ spread ]; sources = sources_settled (ask (inr same)) })
        ];
      })
