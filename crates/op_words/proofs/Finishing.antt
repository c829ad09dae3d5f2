-- The end of a claim: an operation is finished on all values that were fetched for it.
use Rattle.std.proofs.Common.{◌≡◌, ℕ, zero, suc, ◌+◌, ◌<◌, List, [], ◌∷◌, ◌++◌, length, get_or, set, refl, sym, ap, ◌∙◌, subst, inl, inr, arith, Option, Some, None, suc-le-suc, zero-lt-suc}
use Rattle.std.specs.Prelude.{Contains, slice_index}
use Rattle.std.proofs.lemmas.Option.{same_Some}
use Rattle.std.proofs.lemmas.List.Elements.{Contains-append_cases}
use mathlib.Core.Option.{some, none}
use lib.ListN.{get_elem?}
use Rattle.atomic_table.specs.Table.{step, keeps, Allows}
use Rattle.morph_base.specs.declared.plan.Plan.{Plan}
use Rattle.morph_base.specs.declared.word.OpWord.{OpWord}
use Rattle.morph_base.specs.Words.{packed}
use Rattle.morph_base.specs.Plans.{op_count, op_at}
use Rattle.interleaving_core.specs.declared.entry.Held.{Held}
use Rattle.interleaving_core.specs.declared.event.CoreEvent.TheVariants.{Finish}
use Rattle.interleaving_core.specs.Core.{Core, entry_of, fetched, finished, places, put}
use Rattle.interleaving_core.specs.Sightings.{IsNoted, IsRecordNoted}
use Rattle.interleaving_core.specs.Steps.{May, after, end_of as core_end}
use Rattle.interleaving_core.proofs.Basics.{put_else}
use Rattle.op_words.specs.declared.trail.RecordSeen.{RecordSeen}
use Rattle.op_words.specs.declared.trail.View.{View}
use Rattle.op_words.specs.Trails.{left}
use Rattle.op_words.specs.Views.{records_from, finishing}
use Rattle.op_words.specs.Rule.{Seats, Knows, Lawful, Steps}
use Rattle.op_words.specs.Plays.{Sat, Leaves, end_of, ends}
use Rattle.op_words.proofs.Rows.{no_more, not_inside}
use Rattle.op_words.proofs.Knowing.{words_more}
use Rattle.op_words.proofs.Moving.{with_view}
use Rattle.op_words.proofs.Leaving.{IsLeft, left_steps, left_so}
use Rattle.op_words.proofs.Claiming.{sound_claim, held_now, attempt_now, claimed_now, let_go, not_own}

-- ---- the records of a list of values

abbrev pub record_seen : ℕ → ℕ → ℕ → OpWord → RecordSeen
record_seen o j x w = record { op = o; place = j; value = x; word = w }

pub in_records : (k o : ℕ) (w : OpWord) (xs : List ℕ) (r : RecordSeen) → Contains (records_from k o w xs) r → (j : ℕ) × (j < length xs) × (r ≡ record_seen o (k + j) (slice_index xs j) w)
unfolding records_from
in_records k o w [] r inside = absurd (not_inside r inside)
in_records k o w (x ∷ xs) r inside = at inside.0 inside.1 inside.2 (λ n lt is. in_records (k + 1) o w xs r (n, lt, is))
  where
    at : (n : ℕ) → n < suc (length (records_from (k + 1) o w xs)) → get_or (record_seen o k x w ∷ records_from (k + 1) o w xs) n r ≡ r
        → ((n : ℕ) → n < length (records_from (k + 1) o w xs) → get_or (records_from (k + 1) o w xs) n r ≡ r → (j : ℕ) × (j < length xs) × (r ≡ record_seen o (k + 1 + j) (slice_index xs j) w))
        → (j : ℕ) × (j < suc (length xs)) × (r ≡ record_seen o (k + j) (slice_index (x ∷ xs) j) w)
    at zero lt is later = (0, zero-lt-suc (length xs), sym is ∙ ap (λ (n : ℕ). record_seen o n x w) (plus_zero k))
      where
        plus_zero : (n : ℕ) → n ≡ n + 0
        plus_zero n = omega arith
    at (suc n) lt is later =
        let r = later n (lower n lt) is in
        (suc r.0, suc-le-suc r.1, r.2 ∙ ap (λ (m : ℕ). record_seen o m (slice_index xs r.0) w) (shift k r.0))
      where
        lower : (m : ℕ) → suc m < suc (length (records_from (k + 1) o w xs)) → m < length (records_from (k + 1) o w xs)
        lower m less = omega (arith, less)

        shift : (m n : ℕ) → m + 1 + n ≡ m + suc n
        shift m n = omega arith

pub has_record : (k o : ℕ) (w : OpWord) (xs : List ℕ) (j : ℕ) → j < length xs → Contains (records_from k o w xs) (record_seen o (k + j) (slice_index xs j) w)
unfolding records_from
has_record k o w [] j lt = absurd (omega (arith, lt))
has_record k o w (x ∷ xs) zero lt = (0, zero-lt-suc _, ap (λ (n : ℕ). record_seen o n x w) (plus_zero k))
  where
    plus_zero : (n : ℕ) → n ≡ n + 0
    plus_zero n = omega arith
has_record k o w (x ∷ xs) (suc j) lt =
    let r = has_record (k + 1) o w xs j (lower lt) in
    subst (λ (n : ℕ). Contains (record_seen o k x w ∷ records_from (k + 1) o w xs) (record_seen o n (slice_index xs j) w)) (shift k j) (suc r.0, suc-le-suc r.1, r.2)
  where
    lower : suc j < suc (length xs) → j < length xs
    lower less = omega (arith, less)

    shift : (m n : ℕ) → m + 1 + n ≡ m + suc n
    shift m n = omega arith

-- ---- the step

module _ {p : Plan} {cap counters : ℕ} (s : Seats) (lawful : Lawful p cap counters s) (i : ℕ) (v : View) (at : get_elem? s.views i ≡ some (Some v)) (h : Held) (holds : v.claim ≡ Some h)
    (all : length h.values ≡ places p h.op) where
  knows : Knows p cap lawful.core (length s.views) i v
  knows = lawful.hands i v at

  -- the word that the machine leaves is the one that the view tells
  word_same : core_end p lawful.core h.op v.tag ≡ end_of v h
  word_same =
      ap (λ (z : ℕ × List ℕ). finished (op_at p h.op).op z.0 z.1) (λ k. (attempt_now s lawful i v at h holds k, ap fetched (held_now s lawful i v at h holds) k))
      ∙ ap (λ (q : Plan). finished (op_at q h.op).op h.attempt h.values) (sym knows.plan)

  may_end : May p cap lawful.core (Finish h.op v.tag)
  may_end = record { goes_from = claimed_now s lawful i v at h holds; all_fetched = ap (λ (k : Option Held). length (fetched k)) (held_now s lawful i v at h holds) ∙ all }

  abbrev next : Core
  next = after p lawful.core (Finish h.op v.tag)

  new_record : IsNoted next h.op (end_of v h) → (r : RecordSeen) → Contains (records_from 0 h.op (end_of v h) h.values) r → (r.op < op_count p) × IsRecordNoted next r.op r.place r.value r.word
  new_record noted r inside =
      let found = in_records 0 h.op (end_of v h) h.values r inside in
      let claim = sound_claim s lawful i v at h holds in
      subst (λ (x : RecordSeen). (x.op < op_count p) × IsRecordNoted next x.op x.place x.value x.word) (sym (found.2 ∙ ap (λ (n : ℕ). record_seen h.op n (slice_index h.values found.0) (end_of v h)) (from_zero found.0)))
      (claim.in_range, record { under = noted; same = λ shown same. (record { value = slice_index h.values found.0; attempt = h.attempt }, claim.records found.0 found.1, refl) })
    where
      from_zero : (n : ℕ) → 0 + n ≡ n
      from_zero n = omega arith

  is_ended : IsLeft p lawful.core next h.op (end_of v h) (Finish h.op v.tag) i v (finishing h.op (end_of v h) h.values v)
  is_ended = record {
    words = λ j. ap (λ (w : OpWord). put lawful.core.word h.op w j) word_same;
    recorded = λ q j. refl;
    decided = λ j. refl;
    claim = let_go s lawful i v at h holds;
    advances = record {
      others = λ t other. put_else lawful.core.claim v.tag None t (not_own s lawful i v at t other);
      shown = entry_of h.op (end_of v h) ∷ [];
      shows = ap (λ (w : OpWord). lawful.core.published ++ entry_of h.op w ∷ []) word_same;
      mine = refl;
      booked = [];
      books = no_more lawful.core.settlings;
      my_books = no_more v.settlings;
      events = refl;
      tag = refl;
      joined = refl;
      places = refl;
    };
    more = words_more (record { plan = refl; cap = refl; tag = refl; made = refl; notes = refl; trail = refl; decisions = refl; settlings = refl; joined = refl; places = refl });
    learned = refl;
    records = λ noted r inside.
        elim (Contains-append_cases v.records (records_from 0 h.op (end_of v h) h.values) r inside) [
          | inl old ↦ inl old
          | inr new ↦ inr (new_record noted r new)
        ];
  }

  pub ended_steps : Steps p cap counters s lawful (with_view (set s.words h.op (packed (end_of v h))) s i (finishing h.op (end_of v h) h.values v)) (Finish h.op v.tag)
  ended_steps = left_steps s lawful i v (finishing h.op (end_of v h) h.values v) at h.op (sound_claim s lawful i v at h holds).in_range (end_of v h) (Finish h.op v.tag) may_end is_ended

  pub ended_so : Leaves v (finishing h.op (end_of v h) h.values v) (left h.op (end_of v h))
  ended_so = left_so s lawful i v (finishing h.op (end_of v h) h.values v) at h.op (sound_claim s lawful i v at h holds).in_range (end_of v h) (Finish h.op v.tag) may_end is_ended

module _ {p : Plan} {cap counters : ℕ} (slots id : ℕ) (me : Sat) (v : View) (is : me.0 ≡ Some v) (h : Held) (holds : v.claim ≡ Some h) (all : length h.values ≡ places p h.op) where
  pub allows_end : Allows (Lawful p cap counters) slots id me h.op (λ n. packed (end_of v h)) (λ n. ends (step slots h.op (packed (end_of v h)) 0 none) me (packed (end_of v h)))
  allows_end s lawful homes at small =
      let there : get_elem? s.views id ≡ some (Some v) = at ∙ ap some is in (
        Some (finishing h.op (end_of v h) h.values v),
        keeps,
        tt,
        (ended_steps s lawful id v there h holds all).next,
        λ x same k held.
            let e : v ≡ x = same_Some v x (sym is ∙ same) in
            let one : h ≡ k = same_Some h k (sym holds ∙ ap (λ (y : View). y.claim) e ∙ held) in
            subst
            (λ (z : View × Held). (◌≡◌ {A = Sat} (Some (finishing h.op (end_of v h) h.values v), me.1) (Some (finishing z.1.op (end_of z.0 z.1) z.1.values z.0), me.1))
            × Leaves z.0 (finishing z.1.op (end_of z.0 z.1) z.1.values z.0) (left z.1.op (end_of z.0 z.1)))
            (λ t. (e t, one t)) (refl, ended_so s lawful id v there h holds all),
      )
