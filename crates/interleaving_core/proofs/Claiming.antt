-- Steps of one attempt: an operation is made ready, claimed, read for, and given back.
use Rattle.std.proofs.Common.{◌≡◌, ◌≢◌, ℕ, ◌<◌, ◌≤◌, Bool, true, false, [], refl, sym, ap, ◌∙◌, subst, inl, inr, arith, Some, None, not-suc-le-zero}
use Rattle.std.specs.Prelude.{Contains}
use Rattle.std.proofs.lemmas.Bool.{true≢false, false≢true}
use Rattle.std.proofs.lemmas.Option.{same_Some, none-some}
use Rattle.morph_base.specs.Limits.{most_attempts}
use Rattle.morph_base.specs.declared.plan.Plan.{Plan}
use Rattle.morph_base.specs.declared.word.OpState.TheVariants.{Blocked, Ready, Claimed}
use Rattle.morph_base.specs.declared.word.OpWord.{OpWord}
use Rattle.morph_base.specs.Plans.{IsPlan, op_count}
use Rattle.morph_base.specs.Words.{is_idle, is_settled}
use Rattle.interleaving_core.specs.declared.entry.Held.{Held}
use Rattle.interleaving_core.specs.declared.entry.Entry.{Entry}
use Rattle.interleaving_core.specs.declared.entry.Settling.{Settling}
use Rattle.interleaving_core.specs.Core.{Core, put, blocked, ready, claimed}
use Rattle.interleaving_core.specs.Steps.{MayReady, MayClaim, IsClaimedBy, readied, claiming, giving_back}
use Rattle.interleaving_core.specs.Soundness.{IsSoundAt, IsSoundClaim, IsSound}
use Rattle.interleaving_core.specs.Growth.{Grows}
use Rattle.interleaving_core.proofs.Basics.{put_here, put_else, put_cases}
use Rattle.interleaving_core.proofs.Frames.{record_grows, step_at_keeps}
use Rattle.interleaving_core.proofs.Parts.{published_same, booked_open, blocked_range, ready_range, claimed_range, blocked_sound, ready_sound, claimed_sound}

-- a state grows where one word changes that was not settled, to one of no earlier attempt, and nothing is lost
pub word_grows : (p : Plan) (c d : Core) (o : ℕ) (w : OpWord) → d.word ≡ put c.word o w → (c.word o).attempt ≤ w.attempt → is_settled (c.word o).state ≡ false
    → ((e : Entry) → Contains c.published e → Contains d.published e)
    → ((i j : ℕ) (e : Entry) → i < op_count p → Contains c.published e → e.op ≡ i → e.attempt ≡ (d.word i).attempt → d.recorded i j ≡ c.recorded i j)
    → ((i : ℕ) (b : Bool) → c.decision i ≡ Some b → d.decision i ≡ Some b) → ((x : Settling) → Contains c.settlings x → Contains d.settlings x) → Grows p c d
word_grows p c d o w words later open_before entries records decisions settlings = record {
  attempts = λ i.
      elim (put_cases c.word o w i) [
        | inl here ↦
            let new : d.word i ≡ w = ap (λ word. word i) words ∙ here.1 in
            subst (λ n. (c.word n).attempt ≤ (d.word i).attempt) (sym here.0) (subst (λ (v : OpWord). (c.word o).attempt ≤ v.attempt) (sym new) later)
        | inr there ↦
            let same : (d.word i).attempt ≡ (c.word i).attempt = ap (λ v. v.attempt) (ap (λ word. word i) words ∙ there.1) in
            omega arith
      ];
  settled = λ i is.
      elim (put_cases c.word o w i) [
        | inl here ↦ absurd (true≢false (sym is ∙ ap (λ n. is_settled (c.word n).state) here.0 ∙ open_before))
        | inr there ↦ ap (λ word. word i) words ∙ there.1
      ];
  entries = entries;
  records = records;
  decisions = decisions;
  settlings = settlings;
}

module _ (p : Plan) (cap : ℕ) (valid : IsPlan p) (small_cap : cap < most_attempts) (c : Core) (sound : IsSound p cap c) where
  -- the claim of a worker that holds an operation
  pub record HasClaim (o t : ℕ) : Type 0 where
    pub held : Held
    pub is : c.claim t ≡ Some held
    pub op_is : held.op ≡ o
    pub attempt_is : held.attempt ≡ (c.word o).attempt
    pub claim : IsSoundClaim p cap c t held

  pub claim_of : (o t : ℕ) → IsClaimedBy p c o t → HasClaim o t
  claim_of o t by =
      let here : IsSoundAt p cap c o (c.word o) = sound.each_op o by.in_range in
      let held = here.held by.state_is in
      let is : c.claim t ≡ Some held.0 = ap c.claim (sym by.by_is) ∙ held.1 in
      let claim : IsSoundClaim p cap c t held.0 = sound.each_claim t held.0 is in
      let attempt : held.0.attempt ≡ (c.word o).attempt = ap (λ (w : OpWord). w.attempt) (sym claim.word_is) ∙ ap (λ n. (c.word n).attempt) held.2 in
      record { held = held.0; is = is; op_is = held.2; attempt_is = attempt; claim = claim }

  -- another worker's claim is of another operation
  pub others_claim : (o t s : ℕ) (h : Held) → (c.word o).by ≡ t → s ≢ t → c.claim s ≡ Some h → h.op ≢ o
  others_claim o t s h by other is same =
      let claim : IsSoundClaim p cap c s h = sound.each_claim s h is in
      other (ap (λ (w : OpWord). w.by) (sym claim.word_is) ∙ ap (λ n. (c.word n).by) same ∙ by)

  -- an operation that nobody holds is in no claim
  pub no_claim : (o s : ℕ) (h : Held) → (c.word o).state ≢ Claimed → c.claim s ≡ Some h → h.op ≢ o
  no_claim o s h unclaimed is same =
      let claim : IsSoundClaim p cap c s h = sound.each_claim s h is in
      unclaimed (ap (λ n. (c.word n).state) (sym same) ∙ ap (λ (w : OpWord). w.state) claim.word_is)

  -- ---- ready

  module _ (o : ℕ) (may : MayReady p c o) where
    ready_unsettled : is_settled (c.word o).state ≡ false
    ready_unsettled = ap is_settled may.goes_from

    pub ready_grows : Grows p c (readied p c o)
    ready_grows =
        word_grows p c (readied p c o) o (ready (c.word o).attempt) refl (omega arith) ready_unsettled (λ e inside. inside) (λ i j e lt inside op_is attempt_is. refl) (λ i b is. is) (λ x inside. inside)

    pub ready_keeps : IsSound p cap (readied p c o)
    ready_keeps =
        let here : IsSoundAt p cap c o (c.word o) = sound.each_op o may.in_range in
        let v : OpWord = c.word o in
        let w : OpWord = ready v.attempt in
        let idle : is_idle v.state ≡ true = ap is_idle may.goes_from in
        let unclaimed : v.state ≢ Claimed = λ is. (let both : Blocked ≡ Claimed = sym may.goes_from ∙ is in absurd (cc)) in
        step_at_keeps p cap o c (readied p c o) sound (record {
          in_range = may.in_range;
          grows = ready_grows;
          words = λ i other. put_else c.word o w i other;
          records = λ i other. refl;
          claims = λ t h is other. is;
          own_claims = λ t h is. inl (is, no_claim o t h unclaimed is);
          published = λ i u other was. was;
          booked = λ i u other was. was;
          decisions = λ i b is. is;
          entries = sound.entries;
          settlings = sound.settlings;
          sound_at =
              subst (IsSoundAt p cap (readied p c o) o) (sym (put_here c.word o w))
              (ready_sound p cap (readied p c o) o v.attempt
              (ready_range p cap small_cap v.attempt here.range.word.first here.range.most)
              (published_same c.published o v w refl (λ is. idle) (λ is. absurd (false≢true is)) here.published)
              (booked_open c.settlings o v w ready_unsettled refl here.booked)
              (λ j r below is. record_grows p c (readied p c o) ready_grows o v w j r (omega arith) (here.records j r below is)));
        })

  -- ---- claim

  module _ (o t : ℕ) (may : MayClaim p c o t) where
    claim_unsettled : is_settled (c.word o).state ≡ false
    claim_unsettled = ap is_settled may.goes_from

    pub claiming_grows : Grows p c (claiming p c o t)
    claiming_grows =
        word_grows p c (claiming p c o t) o (claimed (c.word o).attempt t) refl (omega arith) claim_unsettled (λ e inside. inside) (λ i j e lt inside op_is attempt_is. refl) (λ i b is. is) (λ x inside. inside)

    pub claiming_keeps : IsSound p cap (claiming p c o t)
    claiming_keeps =
        let here : IsSoundAt p cap c o (c.word o) = sound.each_op o may.in_range in
        let v : OpWord = c.word o in
        let w : OpWord = claimed v.attempt t in
        let d : Core = claiming p c o t in
        let new : Held = record { op = o; attempt = v.attempt; values = [] } in
        let idle : is_idle v.state ≡ true = ap is_idle may.goes_from in
        let unclaimed : v.state ≢ Claimed = λ is. (let both : Ready ≡ Claimed = sym may.goes_from ∙ is in absurd (cc)) in
        let own : IsSoundClaim p cap d t new =
        record {
          in_range = may.in_range;
          word_is = put_here c.word o w;
          few = omega arith;
          records = λ j below. absurd (not-suc-le-zero below);
          last = λ at_last j below. absurd (not-suc-le-zero below);
        } in
        step_at_keeps p cap o c d sound (record {
          in_range = may.in_range;
          grows = claiming_grows;
          words = λ i other. put_else c.word o w i other;
          records = λ i other. refl;
          claims = λ s h is other.
              put_else c.claim t (Some new) s (λ same. none-some h (sym may.free ∙ ap c.claim (sym same) ∙ is)) ∙ is;
          own_claims = λ s h is.
              elim (put_cases c.claim t (Some new) s) [
                | inl mine ↦
                    let same : new ≡ h = same_Some new h (sym mine.1 ∙ is) in
                    inr (subst (IsSoundClaim p cap d s) same (subst (λ n. IsSoundClaim p cap d n new) (sym mine.0) own))
                | inr other ↦ let before : c.claim s ≡ Some h = sym other.1 ∙ is in inl (before, no_claim o s h unclaimed before)
              ];
          published = λ i u other was. was;
          booked = λ i u other was. was;
          decisions = λ i b is. is;
          entries = sound.entries;
          settlings = sound.settlings;
          sound_at =
              subst (IsSoundAt p cap d o) (sym (put_here c.word o w))
              (claimed_sound p cap d o v.attempt t
              (claimed_range p cap small_cap v.attempt t here.range.word.first here.range.most may.worker.first may.worker.last)
              (new, put_here c.claim t (Some new), refl)
              (published_same c.published o v w refl (λ is. idle) (λ is. absurd (false≢true is)) here.published)
              (booked_open c.settlings o v w claim_unsettled refl here.booked)
              (λ j r below is. record_grows p c d claiming_grows o v w j r (omega arith) (here.records j r below is)));
        })

  -- ---- give back

  module _ (o t : ℕ) (by : IsClaimedBy p c o t) where
    give_unsettled : is_settled (c.word o).state ≡ false
    give_unsettled = ap is_settled by.state_is

    pub giving_back_grows : Grows p c (giving_back p c o t)
    giving_back_grows =
        word_grows p c (giving_back p c o t) o (blocked (c.word o).attempt) refl (omega arith) give_unsettled (λ e inside. inside) (λ i j e lt inside op_is attempt_is. refl) (λ i b is. is) (λ x inside. inside)

    -- the claims that are left when the worker lets its operation go
    pub let_go : (s : ℕ) (h : Held) → put c.claim t None s ≡ Some h → (c.claim s ≡ Some h) × (h.op ≢ o)
    let_go s h is =
        elim (put_cases c.claim t None s) [
          | inl mine ↦ absurd (none-some h (sym mine.1 ∙ is))
          | inr other ↦ let before : c.claim s ≡ Some h = sym other.1 ∙ is in (before, others_claim o t s h by.by_is other.0 before)
        ]

    pub kept_claims : (s : ℕ) (h : Held) → c.claim s ≡ Some h → h.op ≢ o → put c.claim t None s ≡ Some h
    kept_claims s h is other =
        let mine : HasClaim o t = claim_of o t by in
        put_else c.claim t None s
        (λ same. other (ap (λ (k : Held). k.op) (same_Some h mine.held (sym is ∙ ap c.claim same ∙ mine.is)) ∙ mine.op_is)) ∙ is

    pub giving_back_keeps : IsSound p cap (giving_back p c o t)
    giving_back_keeps =
        let here : IsSoundAt p cap c o (c.word o) = sound.each_op o by.in_range in
        let v : OpWord = c.word o in
        let w : OpWord = blocked v.attempt in
        let d : Core = giving_back p c o t in
        let idle : is_idle v.state ≡ true = ap is_idle by.state_is in
        step_at_keeps p cap o c d sound (record {
          in_range = by.in_range;
          grows = giving_back_grows;
          words = λ i other. put_else c.word o w i other;
          records = λ i other. refl;
          claims = kept_claims;
          own_claims = λ s h is. inl (let_go s h is);
          published = λ i u other was. was;
          booked = λ i u other was. was;
          decisions = λ i b is. is;
          entries = sound.entries;
          settlings = sound.settlings;
          sound_at =
              subst (IsSoundAt p cap d o) (sym (put_here c.word o w))
              (blocked_sound p cap d o v.attempt
              (blocked_range p cap small_cap v.attempt here.range.word.first here.range.most)
              (published_same c.published o v w refl (λ is. idle) (λ is. absurd (false≢true is)) here.published)
              (booked_open c.settlings o v w give_unsettled refl here.booked)
              (λ j r below is. record_grows p c d giving_back_grows o v w j r (omega arith) (here.records j r below is)));
        })
