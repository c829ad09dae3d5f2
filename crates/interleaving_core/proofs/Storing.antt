-- A stored state's lists as the functions of the machine's state.
use Rattle.std.proofs.Common.{◌≡◌, ◌≢◌, ℕ, zero, suc, ◌+◌, ◌*◌, ◌<◌, ◌≤◌, Bool, true, false, if◌then◌else◌, List, [], ◌∷◌, ◌++◌, length, get_or, set, replicate, refl, sym, ap, ◌∙◌, subst, inl, inr, arith, Option, Some, None, zero-add, le_trans}
use Rattle.std.specs.Prelude.{nat_lt}
use Rattle.std.proofs.Math.Path.{fun_ext}
use Rattle.std.proofs.lemmas.Bool.{cases_eq, lt-ltb, ltb-true, cond-true}
use Rattle.std.proofs.lemmas.List.{length-replicate, get_or-set_same, get_or-set_other}
use Rattle.std.proofs.lemmas.Option.{none-some}
use Rattle.morph_base.specs.declared.limits.TheConstants.{MAX, READS, WORKERS}
use Rattle.morph_base.specs.Limits.{most_attempts}
use Rattle.morph_base.specs.declared.word.OpWord.{OpWord}
use Rattle.morph_base.specs.declared.plan.Plan.{Plan}
use Rattle.morph_base.specs.Plans.{IsPlan, op_count, event_count}
use Rattle.morph_base.specs.Contents.{Contents}
use Rattle.morph_base.proofs.BoundLaws.{high_of-small}
use Rattle.interleaving_core.specs.declared.claim.Claim.{Claim}
use Rattle.interleaving_core.specs.declared.entry.Record.{Record}
use Rattle.interleaving_core.specs.declared.entry.Held.{Held}
use Rattle.interleaving_core.specs.declared.state.CoreState.{CoreState}
use Rattle.interleaving_core.specs.Core.{Core, blocked, put, start}
use Rattle.std.specs.Prelude.{All}
use Rattle.std.proofs.lemmas.List.Elements.{All-nil, All-from_get_or}
use Rattle.std.proofs.Common.{length-append}
use Rattle.morph_base.specs.Plans.{event_of}
use Rattle.interleaving_core.specs.declared.event.CoreEvent.{CoreEvent}
use Rattle.interleaving_core.specs.declared.event.CoreEvent.TheVariants.{Settle}
use Rattle.interleaving_core.specs.Core.{entry_of, fetched}
use Rattle.interleaving_core.specs.Steps.{MayFinish, MaySpread, MaySettle, after, end_of, finishing, spread_of, spreading, settling}
use Rattle.interleaving_core.specs.Soundness.{IsSound}
use Rattle.interleaving_core.proofs.Finishing.{held_small, finishing_keeps}
use Rattle.interleaving_core.proofs.Retrying.{spreading_keeps}
use Rattle.interleaving_core.specs.Stored.{held_of, core_of, HasClaimedValues, AllFit, IsSameShape, IsStateOf}
use Rattle.interleaving_core.proofs.Basics.{put_here, put_else}
use Rattle.interleaving_core.proofs.Machine.{start_sound, step_keeps, few_attempts, few_settlings}

-- states with the same parts are the same
pub same_core : (c d : Core) → c.word ≡ d.word → c.recorded ≡ d.recorded → c.claim ≡ d.claim → c.decision ≡ d.decision → c.published ≡ d.published → c.settlings ≡ d.settlings → c ≡ d
same_core c d words records claims decisions published settlings =
    ap (λ f. record c { word = f }) words ∙ ap (λ f. record c { word = d.word; recorded = f }) records
    ∙ ap (λ f. record c { word = d.word; recorded = d.recorded; claim = f }) claims
    ∙ ap (λ f. record c { word = d.word; recorded = d.recorded; claim = d.claim; decision = f }) decisions
    ∙ ap (λ es. record c { word = d.word; recorded = d.recorded; claim = d.claim; decision = d.decision; published = es }) published
    ∙ ap (λ xs. record d { settlings = xs }) settlings

-- ---- the start

pub at_replicate : {X : Type 0} (n i : ℕ) (x : X) → get_or (replicate n x) i x ≡ x
at_replicate zero i x = refl
at_replicate (suc n) zero x = refl
at_replicate (suc n) (suc i) x = at_replicate n i x

-- all lists are as at the start
pub start_core : (s : CoreState) (n r t d : ℕ) → s.words.items ≡ replicate n (blocked 1) → s.records.items ≡ replicate r None → s.claims.items ≡ replicate t None
    → s.decisions.items ≡ replicate d None → s.published.entries.items ≡ [] → s.settlings.items ≡ [] → core_of s ≡ start
start_core s n r t d words records claims decisions published settlings =
    same_core (core_of s) start (fun_ext (λ o. ap (λ xs. get_or xs o (blocked 1)) words ∙ at_replicate n o (blocked 1)))
    (fun_ext (λ o. fun_ext (λ j. ap (λ x. if nat_lt j READS then x else None) (ap (λ xs. get_or xs (o * READS + j) None) records ∙ at_replicate r (o * READS + j) None) ∙ none_else (nat_lt j READS) None)))
    (fun_ext (λ i. ap held_of (ap (λ xs. get_or xs i None) claims ∙ at_replicate t i None)))
    (fun_ext (λ i. ap (λ xs. get_or xs i None) decisions ∙ at_replicate d i None))
    published settlings
  where
    none_else : (b : Bool) (x : Option Record) → (if b then x else x) ≡ x
    none_else true x = refl
    none_else false x = refl

-- and there is room for all that steps need
pub start_state : (p : Plan) (s : CoreState) → s.cap < most_attempts → s.words.items ≡ replicate (op_count p) (blocked 1) → s.records.items ≡ replicate (op_count p * READS) None
    → s.claims.items ≡ replicate (WORKERS + 1) None → s.decisions.items ≡ replicate (event_count p) None → s.published.entries.items ≡ [] → s.settlings.items ≡ []
    → s.published.entries.room ≡ op_count p * (s.cap + 1) → length s.published.ends.items ≡ op_count p → s.settlings.room ≡ op_count p → IsStateOf p s
start_state p s small words records claims decisions published settlings entry_room ends settling_room = record {
  small_cap = small;
  sizes = record {
    words = ap length words ∙ length-replicate (op_count p) (blocked 1);
    records = ap length records ∙ length-replicate {A = Option Record} (op_count p * READS) None;
    claims = ap length claims ∙ length-replicate {A = Option Claim} (WORKERS + 1) None;
    decisions = ap length decisions ∙ length-replicate {A = Option Bool} (event_count p) None;
    entries = ap (λ es. length es + s.published.entries.room) published ∙ ap (λ n. 0 + n) entry_room ∙ zero-add (op_count p * (s.cap + 1));
    published = ends;
    settlings = ap (λ xs. length xs + s.settlings.room) settlings ∙ ap (λ n. 0 + n) settling_room ∙ zero-add (op_count p);
  };
  claims = λ t k is. absurd (none-some k (sym (ap (λ xs. get_or xs t None) claims ∙ at_replicate (WORKERS + 1) t None) ∙ is));
  sound =
      subst (IsSound p s.cap) (sym (start_core s (op_count p) (op_count p * READS) (WORKERS + 1) (event_count p) words records claims decisions published settlings))
      (start_sound p s.cap small);
}

-- ---- one change

pub set_put : {X Y : Type 0} (f : X → Y) (xs : List X) (i : ℕ) (x d : X) → i < length xs → (λ j. f (get_or (set xs i x) j d)) ≡ put (λ j. f (get_or xs j d)) i (f x)
set_put {X} {Y} f xs i x d lt = fun_ext at
  where
    at : (j : ℕ) → f (get_or (set xs i x) j d) ≡ put (λ k. f (get_or xs k d)) i (f x) j
    at j =
        elim (cases_eq j i) [
          | inl same ↦
              ap (λ k. f (get_or (set xs i x) k d)) same ∙ ap f (get_or-set_same xs i x d lt) ∙ sym (put_here (λ k. f (get_or xs k d)) i (f x))
              ∙ ap (put (λ k. f (get_or xs k d)) i (f x)) (sym same)
          | inr other ↦ ap f (get_or-set_other xs i j x d other) ∙ sym (put_else (λ k. f (get_or xs k d)) i (f x) j other)
        ]

pub word_set : (s : CoreState) (words : Contents OpWord) (o : ℕ) (w : OpWord) → o < length s.words.items → words.items ≡ set s.words.items o w
    → core_of (record s { words = words }) ≡ record (core_of s) { word = put (core_of s).word o w }
word_set s words o w lt is =
    ap (λ f. record (core_of s) { word = f })
    (ap (λ xs. λ (i : ℕ). get_or xs i (blocked 1)) is ∙ set_put (λ (v : OpWord). v) s.words.items o w (blocked 1) lt)

pub claim_set : (s : CoreState) (claims : Contents (Option Claim)) (t : ℕ) (k : Option Claim) → t < length s.claims.items → claims.items ≡ set s.claims.items t k
    → core_of (record s { claims = claims }) ≡ record (core_of s) { claim = put (core_of s).claim t (held_of k) }
claim_set s claims t k lt is =
    ap (λ f. record (core_of s) { claim = f })
    (ap (λ xs. λ (i : ℕ). held_of (get_or xs i None)) is ∙ set_put held_of s.claims.items t k None lt)

-- a fitting claim leaves all fitting
pub claims_fit : (s : CoreState) (claims : Contents (Option Claim)) (t : ℕ) (k : Option Claim) → t < length s.claims.items → claims.items ≡ set s.claims.items t k
    → ((m : Claim) → k ≡ Some m → HasClaimedValues m) → AllFit s → AllFit (record s { claims = claims })
claims_fit s claims t k lt is fits all i m at =
    let found : get_or (set s.claims.items t k) i None ≡ Some m = ap (λ xs. get_or xs i None) (sym is) ∙ at in
    elim (cases_eq i t) [
      | inl same ↦ fits m (sym (ap (λ n. get_or (set s.claims.items t k) n None) same ∙ get_or-set_same s.claims.items t k None lt) ∙ found)
      | inr other ↦ all i m (sym (get_or-set_other s.claims.items t i k None other) ∙ found)
    ]

pub decision_set : (s : CoreState) (decisions : Contents (Option Bool)) (i : ℕ) (d : Option Bool) → i < length s.decisions.items → decisions.items ≡ set s.decisions.items i d
    → core_of (record s { decisions = decisions }) ≡ record (core_of s) { decision = put (core_of s).decision i d }
decision_set s decisions i d lt is =
    ap (λ f. record (core_of s) { decision = f })
    (ap (λ xs. λ (n : ℕ). get_or xs n None) is ∙ set_put (λ (b : Option Bool). b) s.decisions.items i d None lt)

-- the record of an operation at a place, in the list of all
abbrev pub record_at : List (Option Record) → ℕ → ℕ → Option Record
record_at items o j = if nat_lt j READS then get_or items (o * READS + j) None else None

-- a place keeps its record where another one is written
other_record : (items : List (Option Record)) (n : ℕ) (r : Option Record) (i k : ℕ) → (k < READS → i * READS + k ≢ n) → record_at (set items n r) i k ≡ record_at items i k
other_record items n r i k other = of_test (nat_lt k READS) refl
  where
    of_test : (b : Bool) → nat_lt k READS ≡ b → (if b then get_or (set items n r) (i * READS + k) None else None) ≡ (if b then get_or items (i * READS + k) None else None)
    of_test true is = get_or-set_other items n (i * READS + k) r None (other (ltb-true k READS is))
    of_test false is = refl

same_record : (items : List (Option Record)) (o j : ℕ) (r : Option Record) → j < READS → o * READS + j < length items → record_at (set items (o * READS + j) r) o j ≡ r
same_record items o j r below lt =
    cond-true (nat_lt j READS) (get_or (set items (o * READS + j) r) (o * READS + j) None) None (lt-ltb j READS below)
    ∙ get_or-set_same items (o * READS + j) r None lt

records_set : (items : List (Option Record)) (o j : ℕ) (r : Option Record) → j < READS → o * READS + j < length items
    → (i k : ℕ) → record_at (set items (o * READS + j) r) i k ≡ put (record_at items) o (put (record_at items o) j r) i k
records_set items o j r below lt i k =
    let row : ℕ → Option Record = put (record_at items o) j r in
    elim (cases_eq i o) [
      | inr other ↦
          other_record items (o * READS + j) r i k (λ in_row same. absurd (omega arith))
          ∙ ap (λ f. f k) (sym (put_else (record_at items) o row i other))
      | inl here ↦
          ap (λ n. record_at (set items (o * READS + j) r) n k) here
          ∙ elim (cases_eq k j) [
            | inr aside ↦ other_record items (o * READS + j) r o k (λ in_row same. absurd (omega arith)) ∙ sym (put_else (record_at items o) j r k aside)
            | inl at ↦ ap (record_at (set items (o * READS + j) r) o) at ∙ same_record items o j r below lt ∙ sym (put_here (record_at items o) j r) ∙ ap row (sym at)
          ]
          ∙ ap (λ f. f k) (sym (put_here (record_at items) o row)) ∙ ap (λ n. put (record_at items) o row n k) (sym here)
    ]

pub record_set : (s : CoreState) (records : Contents (Option Record)) (o j : ℕ) (r : Option Record) → j < READS → o * READS + j < length s.records.items
    → records.items ≡ set s.records.items (o * READS + j) r
    → core_of (record s { records = records }) ≡ record (core_of s) { recorded = put (core_of s).recorded o (put ((core_of s).recorded o) j r) }
record_set s records o j r below lt is =
    ap (λ f. record (core_of s) { recorded = f })
    (ap record_at is ∙ fun_ext (λ i. fun_ext (λ k. records_set s.records.items o j r below lt i k)))

-- ---- changes one after another

pub same_shape_trans : (a b c : CoreState) → IsSameShape a b → IsSameShape b c → IsSameShape a c
same_shape_trans a b c one two = record {
  cap = two.cap ∙ one.cap;
  words = two.words ∙ one.words;
  records = two.records ∙ one.records;
  claims = two.claims ∙ one.claims;
  decisions = two.decisions ∙ one.decisions;
  entries = two.entries ∙ one.entries;
  published = two.published ∙ one.published;
  settlings = two.settlings ∙ one.settlings;
  fit = λ fits. two.fit (one.fit fits);
}

-- a sound state of the same shape is a state of the plan
pub state_again : (p : Plan) (s t : CoreState) → IsStateOf p s → IsSameShape s t → IsSound p s.cap (core_of t) → IsStateOf p t
state_again p s t state shape sound = record {
  small_cap = subst (λ n. n < most_attempts) (sym shape.cap) state.small_cap;
  sizes = record {
    words = shape.words ∙ state.sizes.words;
    records = shape.records ∙ state.sizes.records;
    claims = shape.claims ∙ state.sizes.claims;
    decisions = shape.decisions ∙ state.sizes.decisions;
    entries = shape.entries ∙ state.sizes.entries ∙ ap (λ n. op_count p * (n + 1)) (sym shape.cap);
    published = shape.published ∙ state.sizes.published;
    settlings = shape.settlings ∙ state.sizes.settlings;
  };
  claims = shape.fit state.claims;
  sound = subst (λ n. IsSound p n (core_of t)) (sym shape.cap) sound;
}

-- ---- room for what a step adds

pub room_to_finish : (p : Plan) (s : CoreState) (o t : ℕ) → IsPlan p → IsStateOf p s → MayFinish p (core_of s) o t → 0 < s.published.entries.room
room_to_finish p s o t valid state may =
    let next : IsSound p s.cap (finishing p (core_of s) o t) = finishing_keeps p s.cap valid state.small_cap (core_of s) state.sound o t may in
    let all = (few_attempts p s.cap valid (finishing p (core_of s) o t) next).all in
    let more : length (s.published.entries.items ++ entry_of o (end_of p (core_of s) o t) ∷ []) ≡ length s.published.entries.items + 1 = length-append s.published.entries.items _ in
    let sizes = state.sizes.entries in
    omega arith

pub room_to_spread : (p : Plan) (s : CoreState) (o sibling : ℕ) → IsPlan p → IsStateOf p s → MaySpread p s.cap (core_of s) o sibling → 0 < s.published.entries.room
room_to_spread p s o sibling valid state may =
    let next : IsSound p s.cap (spreading p (core_of s) o) = spreading_keeps p s.cap valid state.small_cap (core_of s) state.sound o sibling may in
    let all = (few_attempts p s.cap valid (spreading p (core_of s) o) next).all in
    let more : length (s.published.entries.items ++ entry_of o (spread_of p (core_of s) o) ∷ []) ≡ length s.published.entries.items + 1 = length-append s.published.entries.items _ in
    let sizes = state.sizes.entries in
    omega arith

pub room_to_settle : (p : Plan) (s : CoreState) (o t : ℕ) → IsPlan p → IsStateOf p s → MaySettle p (core_of s) o t → 0 < s.settlings.room
room_to_settle p s o t valid state may =
    let step : CoreEvent = Settle o t in
    let next : IsSound p s.cap (after p (core_of s) step) = step_keeps p s.cap valid state.small_cap (core_of s) state.sound step may in
    let all = few_settlings p s.cap valid (after p (core_of s) step) next in
    let sizes = state.sizes.settlings in
    of_decision ((core_of s).decision (event_of p o)) refl all
  where
    of_decision : (d : Option Bool) → (core_of s).decision (event_of p o) ≡ d → length (settling p (core_of s) o t ((core_of s).decision (event_of p o))).settlings ≤ op_count p → 0 < s.settlings.room
    of_decision (Some true) is all =
        let more : length (settling p (core_of s) o t (Some true)).settlings ≡ length s.settlings.items + 1 = length-append s.settlings.items _ in
        let fits : length (settling p (core_of s) o t (Some true)).settlings ≤ op_count p = subst (λ d. length (settling p (core_of s) o t d).settlings ≤ op_count p) is all in
        let sizes = state.sizes.settlings in
        omega arith
    of_decision (Some false) is all =
        let more : length (settling p (core_of s) o t (Some false)).settlings ≡ length s.settlings.items + 1 = length-append s.settlings.items _ in
        let fits : length (settling p (core_of s) o t (Some false)).settlings ≤ op_count p = subst (λ d. length (settling p (core_of s) o t d).settlings ≤ op_count p) is all in
        let sizes = state.sizes.settlings in
        omega arith
    of_decision None is all =
        elim may.as_decided [
          | inl commits ↦ absurd (none-some true (sym is ∙ commits.decided))
          | inr aborts ↦ absurd (none-some false (sym is ∙ aborts.decided))
        ]

-- ---- what a worker fetched

pub fetched_small : (p : Plan) (s : CoreState) (t : ℕ) → IsPlan p → IsStateOf p s → All (λ x. x ≤ MAX) (fetched ((core_of s).claim t))
fetched_small p s t valid state = of_claim ((core_of s).claim t) refl
  where
    of_claim : (k : Option Held) → (core_of s).claim t ≡ k → All (λ x. x ≤ MAX) (fetched k)
    of_claim None is = All-nil (λ x. x ≤ MAX)
    of_claim (Some h) is = All-from_get_or (λ x. x ≤ MAX) h.values 0 (λ j below. le_trans (held_small p s.cap valid state.small_cap (core_of s) state.sound t h is j below) (high_of-small p valid))
