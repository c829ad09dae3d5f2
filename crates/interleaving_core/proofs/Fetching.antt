-- Steps over the records of an attempt: a version of a source is fetched.
use Rattle.std.proofs.Common.{◌≡◌, ℕ, ◌+◌, ◌<◌, ◌≤◌, true, false, [], ◌∷◌, ◌++◌, length, get_or, refl, sym, ap, ◌∙◌, subst, inl, inr, arith, Option, Some, length-append}
use Rattle.std.proofs.lemmas.Bool.{cases_eq, cases_lt, false≢true}
use Rattle.std.proofs.lemmas.List.{get_or_append_left}
use Rattle.std.proofs.Math.Seq.{get_or-append_seam}
use Rattle.std.proofs.lemmas.Option.{same_Some}
use Rattle.morph_base.specs.Limits.{most_attempts}
use Rattle.morph_base.specs.declared.plan.Plan.{Plan}
use Rattle.morph_base.specs.declared.word.OpWord.{OpWord}
use Rattle.morph_base.specs.Plans.{high_of, IsPlan, origin_at}
use Rattle.morph_base.specs.Words.{is_idle, is_settled}
use Rattle.interleaving_core.specs.declared.entry.Record.{Record}
use Rattle.interleaving_core.specs.declared.entry.Held.{Held}
use Rattle.interleaving_core.specs.Core.{Core, put, claimed, fetched, places, IsSettledAs, IsVersion}
use Rattle.interleaving_core.specs.Steps.{MayFetch, fetching}
use Rattle.interleaving_core.specs.Soundness.{IsRightRecord, IsSoundAt, IsSoundClaim, IsSound}
use Rattle.interleaving_core.specs.Growth.{Grows}
use Rattle.interleaving_core.proofs.Basics.{put_here, put_else, put_cases, entries-some}
use Rattle.interleaving_core.proofs.Frames.{record_grows, settled_as_grows, version_grows, step_at_keeps}
use Rattle.interleaving_core.proofs.Parts.{published_same, booked_open, claimed_range, claimed_sound}
use Rattle.interleaving_core.proofs.Sources.{version_from_settled, version_small}
use Rattle.interleaving_core.proofs.Claiming.{HasClaim, claim_of, others_claim}

module _ (p : Plan) (cap : ℕ) (valid : IsPlan p) (small_cap : cap < most_attempts) (c : Core) (sound : IsSound p cap c) where
  module _ (o j t x : ℕ) (may : MayFetch p cap c o j t x) where
    here : IsSoundAt p cap c o (c.word o)
    here = sound.each_op o may.goes_from.in_range

    mine : HasClaim p cap valid small_cap c sound o t
    mine = claim_of p cap valid small_cap c sound o t may.goes_from

    idle : is_idle (c.word o).state ≡ true
    idle = ap is_idle may.goes_from.state_is

    pub fetching_grows : Grows p c (fetching p c o j t x)
    fetching_grows = record {
      attempts = λ i. omega arith;
      settled = λ i is. refl;
      entries = λ e inside. inside;
      records = λ i k e lt inside op_is attempt_is.
          elim (cases_eq i o) [
            | inl same ↦
                let none = here.published.not_yet idle in
                absurd (entries-some o (c.word o).attempt c.published e inside (op_is ∙ same) (attempt_is ∙ ap (λ n. (c.word n).attempt) same) none)
            | inr other ↦ ap (λ recorded. recorded k) (put_else c.recorded o _ i other)
          ];
      decisions = λ i b is. is;
      settlings = λ y inside. inside;
    }

    -- what is fetched is a version, also at the last attempt
    fetched_version : IsVersion c (origin_at p o j) x
    fetched_version =
        elim (cases_lt cap (c.word o).attempt) [
          | inl above ↦
              let last : (c.word o).attempt ≡ cap + 1 = (let most = here.range.most in omega arith) in
              version_from_settled c (origin_at p o j) x (may.settled_at_last last)
          | inr below ↦ may.version below
        ]

    fetched_small : x ≤ high_of p
    fetched_small = version_small p cap valid c sound o j x may.goes_from.in_range may.in_places fetched_version

    abbrev new_record : Record
    new_record = record { value = x; attempt = (c.word o).attempt }

    abbrev new_held : Held
    new_held = record { op = o; attempt = (c.word o).attempt; values = fetched (c.claim t) ++ x ∷ [] }

    abbrev own_records : ℕ → Option Record
    own_records = put (c.recorded o) j (Some new_record)

    records_here : put c.recorded o own_records o ≡ own_records
    records_here = put_here c.recorded o own_records

    -- what was fetched before
    old_values : fetched (c.claim t) ≡ mine.held.values
    old_values = ap fetched mine.is

    new_len : length (fetched (c.claim t) ++ x ∷ []) ≡ j + 1
    new_len = length-append (fetched (c.claim t)) (x ∷ []) ∙ ap (λ n. n + 1) may.next

    at_new : get_or (fetched (c.claim t) ++ x ∷ []) j 0 ≡ x
    at_new = ap (get_or (fetched (c.claim t) ++ x ∷ []) j) refl ∙ subst (λ n. get_or (fetched (c.claim t) ++ x ∷ []) n 0 ≡ x) may.next (get_or-append_seam (fetched (c.claim t)) x [] 0)

    at_old : (k : ℕ) → k < j → get_or (fetched (c.claim t) ++ x ∷ []) k 0 ≡ get_or mine.held.values k 0
    at_old k lt =
        let before : k < length (fetched (c.claim t)) = (let next = may.next in omega arith) in
        get_or_append_left (fetched (c.claim t)) (x ∷ []) 0 k before ∙ ap (λ values. get_or values k 0) old_values

    old_below : (k : ℕ) → k < j → k < length mine.held.values
    old_below k lt = subst (λ n. k < n) (sym may.next ∙ ap length old_values) lt

    old_record : (k : ℕ) → k < j → c.recorded o k ≡ Some (record { value = get_or mine.held.values k 0; attempt = (c.word o).attempt })
    old_record k lt =
        ap (λ i. c.recorded i k) (sym mine.op_is) ∙ mine.claim.records k (old_below k lt)
        ∙ ap (λ a. Some (record { value = get_or mine.held.values k 0; attempt = a })) mine.attempt_is

    new_records : (k : ℕ) → k < j + 1 → put c.recorded o own_records o k ≡ Some (record { value = get_or (fetched (c.claim t) ++ x ∷ []) k 0; attempt = (c.word o).attempt })
    new_records k lt =
        let made : ℕ → Option Record = λ v. Some (record { value = v; attempt = (c.word o).attempt }) in
        ap (λ recorded. recorded k) records_here
        ∙ elim (cases_eq k j) [
          | inl same ↦
              ap own_records same ∙ put_here (c.recorded o) j (Some new_record)
              ∙ ap made (sym at_new ∙ ap (λ n. get_or (fetched (c.claim t) ++ x ∷ []) n 0) (sym same))
          | inr other ↦
              let before : k < j = omega arith in
              put_else (c.recorded o) j (Some new_record) k other ∙ old_record k before ∙ ap made (sym (at_old k before))
        ]

    new_last : (c.word o).attempt ≡ cap + 1 → (k : ℕ) → k < j + 1 → IsSettledAs c (origin_at p o k) (get_or (fetched (c.claim t) ++ x ∷ []) k 0)
    new_last at_last k lt =
        elim (cases_eq k j) [
          | inl same ↦
              subst (λ n. IsSettledAs c (origin_at p o n) (get_or (fetched (c.claim t) ++ x ∷ []) n 0)) (sym same)
              (subst (IsSettledAs c (origin_at p o j)) (sym at_new) (may.settled_at_last at_last))
          | inr other ↦
              let before : k < j = omega arith in
              let old : IsSettledAs c (origin_at p mine.held.op k) (get_or mine.held.values k 0) = mine.claim.last (mine.attempt_is ∙ at_last) k (old_below k before) in
              subst (IsSettledAs c (origin_at p o k)) (sym (at_old k before))
              (subst (λ n. IsSettledAs c (origin_at p n k) (get_or mine.held.values k 0)) mine.op_is old)
        ]

    word_is : c.word o ≡ claimed (c.word o).attempt t
    word_is = ap c.word (sym mine.op_is) ∙ mine.claim.word_is ∙ ap (λ a. claimed a t) mine.attempt_is

    own_claim : IsSoundClaim p cap (fetching p c o j t x) t new_held
    own_claim = record {
      in_range = may.goes_from.in_range;
      word_is = word_is;
      few = subst (λ n. n ≤ places p o) (sym new_len) (let below = may.in_places in omega arith);
      records = λ k below. new_records k (subst (λ n. k < n) new_len below);
      last = λ at_last k below.
          settled_as_grows p c (fetching p c o j t x) fetching_grows (origin_at p o k) (get_or (fetched (c.claim t) ++ x ∷ []) k 0)
          (new_last at_last k (subst (λ n. k < n) new_len below));
    }

    right_record : (k : ℕ) (r : Record) → k < places p o → put c.recorded o own_records o k ≡ Some r → IsRightRecord p (fetching p c o j t x) o (c.word o) k r
    right_record k r below is =
        let at : own_records k ≡ Some r = ap (λ recorded. recorded k) (sym records_here) ∙ is in
        elim (put_cases (c.recorded o) j (Some new_record) k) [
          | inl new ↦
              let same : new_record ≡ r = same_Some new_record r (sym new.1 ∙ at) in
              let right : IsRightRecord p (fetching p c o j t x) o (c.word o) j new_record =
              record {
                attempt = omega arith;
                small = fetched_small;
                version = version_grows p c (fetching p c o j t x) fetching_grows (origin_at p o j) x fetched_version;
              } in
              subst (IsRightRecord p (fetching p c o j t x) o (c.word o) k) same
              (subst (λ n. IsRightRecord p (fetching p c o j t x) o (c.word o) n new_record) (sym new.0) right)
          | inr old ↦
              record_grows p c (fetching p c o j t x) fetching_grows o (c.word o) (c.word o) k r (omega arith) (here.records k r below (sym old.1 ∙ at))
        ]

    pub fetching_keeps : IsSound p cap (fetching p c o j t x)
    fetching_keeps =
        let v : OpWord = c.word o in
        let d : Core = fetching p c o j t x in
        let unsettled : is_settled v.state ≡ false = ap is_settled may.goes_from.state_is in
        step_at_keeps p cap o c d sound (record {
          in_range = may.goes_from.in_range;
          grows = fetching_grows;
          words = λ i other. refl;
          records = λ i other. put_else c.recorded o own_records i other;
          claims = λ s h is other.
              put_else c.claim t (Some new_held) s
              (λ same. other (ap (λ (k : Held). k.op) (same_Some h mine.held (sym is ∙ ap c.claim same ∙ mine.is)) ∙ mine.op_is)) ∙ is;
          own_claims = λ s h is.
              elim (put_cases c.claim t (Some new_held) s) [
                | inl own ↦
                    let same : new_held ≡ h = same_Some new_held h (sym own.1 ∙ is) in
                    inr (subst (IsSoundClaim p cap d s) same (subst (λ n. IsSoundClaim p cap d n new_held) (sym own.0) own_claim))
                | inr other ↦
                    let before : c.claim s ≡ Some h = sym other.1 ∙ is in
                    inl (before, others_claim p cap valid small_cap c sound o t s h may.goes_from.by_is other.0 before)
              ];
          published = λ i u other was. was;
          booked = λ i u other was. was;
          decisions = λ i b is. is;
          entries = sound.entries;
          settlings = sound.settlings;
          sound_at =
              subst (IsSoundAt p cap d o) (sym word_is)
              (claimed_sound p cap d o v.attempt t
              (claimed_range p cap small_cap v.attempt t here.range.word.first here.range.most may.goes_from.worker.first may.goes_from.worker.last)
              (new_held, put_here c.claim t (Some new_held), refl)
              (published_same c.published o v (claimed v.attempt t) refl (λ is. idle) (λ is. absurd (false≢true is)) here.published)
              (booked_open c.settlings o v (claimed v.attempt t) unsettled refl here.booked)
              (λ k r below is. subst (λ (w : OpWord). IsRightRecord p d o w k r) word_is (right_record k r below is)));
        })
