-- What a step leaves as it was: what was seen stays true as the state grows, and an operation that a step does not touch
-- stays sound.
use Rattle.std.proofs.Common.{◌≡◌, ◌≢◌, ℕ, ◌<◌, ◌≤◌, Bool, true, false, get_or, refl, sym, ap, ◌∙◌, subst, inl, inr, ◌⊎◌, arith, Some}
use Rattle.std.specs.Prelude.{Contains}
use Rattle.std.proofs.lemmas.Bool.{cases_eq}
use Rattle.morph_base.specs.declared.plan.Origin.{Origin}
use Rattle.morph_base.specs.declared.plan.Origin.TheVariants.{Base, Op as Written}
use Rattle.morph_base.specs.declared.plan.Plan.{Plan}
use Rattle.morph_base.specs.declared.word.OpWord.{OpWord}
use Rattle.morph_base.specs.Plans.{high_of, op_count, event_of, origin_at}
use Rattle.morph_base.specs.Clean.{from, outcome}
use Rattle.morph_base.specs.Known.{IsKnown, AreKnown}
use Rattle.morph_base.specs.Words.{is_settled}
use Rattle.morph_base.proofs.OutcomeLaws.{outcome-same}
use Rattle.interleaving_core.specs.declared.entry.Record.{Record}
use Rattle.interleaving_core.specs.declared.entry.Held.{Held}
use Rattle.interleaving_core.specs.declared.entry.Entry.{Entry}
use Rattle.interleaving_core.specs.declared.entry.Settling.{Settling}
use Rattle.interleaving_core.specs.Core.{Core, HasShown, IsSettledIn, value_in, IsSettledAs, IsVersion}
use Rattle.interleaving_core.specs.Soundness.{Follows, IsPublishedOnce, IsSettledRight, IsAbortedRight, IsBooked, IsRightRecord, IsSoundAt, IsSoundClaim, IsSound}
use Rattle.interleaving_core.specs.Growth.{Grows}

-- ---- what was seen stays true

module _ (p : Plan) (c d : Core) (grows : Grows p c d) where
  pub settled_grows : (o : ℕ) → IsSettledIn c o → IsSettledIn d o
  settled_grows o is = ap (λ w. is_settled w.state) (grows.settled o is) ∙ is

  pub known_grows : (origin : Origin) → IsKnown (IsSettledIn c) origin → IsKnown (IsSettledIn d) origin
  known_grows (Base v) is = tt
  known_grows (Written s) is = settled_grows s is

  pub from_grows : (origin : Origin) → IsKnown (IsSettledIn c) origin → from (value_in d) origin ≡ from (value_in c) origin
  from_grows (Base v) is = refl
  from_grows (Written s) is = ap (λ w. w.value) (grows.settled s is)

  pub settled_as_grows : (origin : Origin) (x : ℕ) → IsSettledAs c origin x → IsSettledAs d origin x
  settled_as_grows origin x is = (known_grows origin is.0, from_grows origin is.0 ∙ is.1)

  pub shown_grows : (s x : ℕ) → HasShown c.published s x → HasShown d.published s x
  shown_grows s x seen = record { entry = seen.entry; inside = grows.entries seen.entry seen.inside; op_is = seen.op_is; value_is = seen.value_is }

  pub version_grows : (origin : Origin) (x : ℕ) → IsVersion c origin x → IsVersion d origin x
  version_grows (Base v) x is = is
  version_grows (Written s) x is =
      elim is [ inl stands ↦ inl (settled_as_grows (Written s) x stands) | inr seen ↦ inr (shown_grows s x seen) ]

  pub outcome_grows : (o : ℕ) → AreKnown p (IsSettledIn c) o → outcome p (value_in d) o ≡ outcome p (value_in c) o
  outcome_grows o sources = outcome-same p (value_in d) (value_in c) o (λ j below. from_grows (origin_at p o j) (sources j below))

  pub settled_right_grows : (o : ℕ) (w : OpWord) → d.recorded o ≡ c.recorded o → IsSettledRight p c o w → IsSettledRight p d o w
  settled_right_grows o w same right = record {
    decided = grows.decisions (event_of p o) true right.decided;
    sources = λ j below. known_grows (origin_at p o j) (right.sources j below);
    records = λ j below.
        let r = right.records j below in
        (r.0, ap (λ recorded. recorded j) same ∙ r.1, r.2 ∙ sym (from_grows (origin_at p o j) (right.sources j below)));
    answer = outcome_grows o right.sources ∙ right.answer;
    value_is = right.value_is;
  }

  pub aborted_right_grows : (o : ℕ) (w : OpWord) → IsAbortedRight p c o w → IsAbortedRight p d o w
  aborted_right_grows o w right = record {
    decided = grows.decisions (event_of p o) false right.decided;
    target = known_grows (origin_at p o 0) right.target;
    carries = right.carries ∙ sym (from_grows (origin_at p o 0) right.target);
    value_is = right.value_is;
  }

  pub record_grows : (o : ℕ) (v w : OpWord) (j : ℕ) (r : Record) → v.attempt ≤ w.attempt → IsRightRecord p c o v j r → IsRightRecord p d o w j r
  record_grows o v w j r later right = record {
    attempt = (let before = right.attempt in omega arith);
    small = right.small;
    version = version_grows (origin_at p o j) r.value right.version;
  }

  pub claim_grows : (cap t : ℕ) (h : Held) → d.word h.op ≡ c.word h.op → d.recorded h.op ≡ c.recorded h.op → IsSoundClaim p cap c t h → IsSoundClaim p cap d t h
  claim_grows cap t h word records sound = record {
    in_range = sound.in_range;
    word_is = word ∙ sound.word_is;
    few = sound.few;
    records = λ j below. ap (λ recorded. recorded j) records ∙ sound.records j below;
    last = λ at_last j below. settled_as_grows (origin_at p h.op j) (get_or h.values j 0) (sound.last at_last j below);
  }

  -- an operation that the step does not touch
  pub at_grows : (cap o : ℕ) (w : OpWord) → d.recorded o ≡ c.recorded o → ((h : Held) → c.claim w.by ≡ Some h → h.op ≡ o → d.claim w.by ≡ Some h)
      → IsPublishedOnce d.published o w → IsBooked d.settlings o w → IsSoundAt p cap c o w → IsSoundAt p cap d o w
  at_grows cap o w same claims published booked sound = record {
    range = sound.range;
    held = λ is. let h = sound.held is in (h.0, claims h.0 h.1 h.2, h.2);
    follows = subst (λ recorded. Follows p recorded o w) (sym same) sound.follows;
    published = published;
    settled = λ is. settled_right_grows o w same (sound.settled is);
    aborted = λ is. aborted_right_grows o w (sound.aborted is);
    booked = booked;
    last = λ run at_last j r below is.
        settled_as_grows (origin_at p o j) r.value (sound.last run at_last j r below (ap (λ recorded. recorded j) (sym same) ∙ is));
    records = λ j r below is. record_grows o w w j r (omega arith) (sound.records j r below (ap (λ recorded. recorded j) (sym same) ∙ is));
  }

-- ---- a step that touches one operation

-- all that differs between two states is about operation o, and what is about it is sound
pub record IsStepAt (p : Plan) (cap : ℕ) (o : ℕ) (c d : Core) : Type 0 where
  pub in_range : o < op_count p
  pub grows : Grows p c d
  pub words : (i : ℕ) → i ≢ o → d.word i ≡ c.word i
  pub records : (i : ℕ) → i ≢ o → d.recorded i ≡ c.recorded i
  pub claims : (t : ℕ) (h : Held) → c.claim t ≡ Some h → h.op ≢ o → d.claim t ≡ Some h
  pub own_claims : (t : ℕ) (h : Held) → d.claim t ≡ Some h → ((c.claim t ≡ Some h) × (h.op ≢ o)) ⊎ IsSoundClaim p cap d t h
  pub published : (i : ℕ) (w : OpWord) → i ≢ o → IsPublishedOnce c.published i w → IsPublishedOnce d.published i w
  pub booked : (i : ℕ) (w : OpWord) → i ≢ o → IsBooked c.settlings i w → IsBooked d.settlings i w
  pub decisions : (i : ℕ) (b : Bool) → d.decision i ≡ Some b → c.decision i ≡ Some b
  pub entries : (e : Entry) → Contains d.published e → (e.op < op_count p) × (e.value ≤ high_of p)
  pub settlings : (x : Settling) → Contains d.settlings x → x.op < op_count p
  pub sound_at : IsSoundAt p cap d o (d.word o)

pub step_at_keeps : (p : Plan) (cap o : ℕ) (c d : Core) → IsSound p cap c → IsStepAt p cap o c d → IsSound p cap d
step_at_keeps p cap o c d sound step = record {
  each_op = λ i lt.
      elim (cases_eq i o) [
        | inl same ↦ subst (λ n. IsSoundAt p cap d n (d.word n)) (sym same) step.sound_at
        | inr other ↦
            let was : IsSoundAt p cap c i (c.word i) = sound.each_op i lt in
            subst (IsSoundAt p cap d i) (sym (step.words i other))
            (at_grows p c d step.grows cap i (c.word i) (step.records i other)
            (λ h is op_is. step.claims (c.word i).by h is (λ e. other (sym op_is ∙ e)))
            (step.published i (c.word i) other was.published) (step.booked i (c.word i) other was.booked) was)
      ];
  each_claim = λ t h is.
      elim (step.own_claims t h is) [
        | inl before ↦
            claim_grows p c d step.grows cap t h (step.words h.op before.1) (step.records h.op before.1) (sound.each_claim t h before.0)
        | inr own ↦ own
      ];
  decided = λ i b is. sound.decided i b (step.decisions i b is);
  entries = step.entries;
  settlings = step.settlings;
}
