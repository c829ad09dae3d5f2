-- The end of an attempt: the operation shows what its function makes of what was fetched.
use Rattle.std.proofs.Common.{◌≡◌, ℕ, ◌+◌, ◌<◌, ◌≤◌, true, false, List, length, get_or, refl, sym, ap, ◌∙◌, subst, inl, inr, arith, Option, Some, None, le_trans, le_refl}
use Rattle.std.proofs.lemmas.Bool.{false≢true}
use Rattle.std.proofs.lemmas.List.Elements.{All-from_get_or, Contains-push_cases}
use Rattle.std.proofs.lemmas.Option.{same_Some}
use Rattle.morph_base.specs.Limits.{most_attempts}
use Rattle.morph_base.specs.declared.plan.Plan.{Plan}
use Rattle.morph_base.specs.declared.word.OpWord.{OpWord}
use Rattle.morph_base.specs.Functions.{value_of}
use Rattle.morph_base.specs.Plans.{high_of, IsPlan, op_count, op_at, origin_at}
use Rattle.morph_base.specs.Words.{is_idle, is_settled}
use Rattle.morph_base.proofs.BoundLaws.{value_of-within, high_of-small, op_under}
use Rattle.interleaving_core.specs.declared.entry.Record.{Record}
use Rattle.interleaving_core.specs.declared.entry.Held.{Held}
use Rattle.interleaving_core.specs.declared.entry.Entry.{Entry}
use Rattle.interleaving_core.specs.Core.{Core, ended, fetched, entry_of, entries_at, places, IsSettledAs}
use Rattle.interleaving_core.specs.Steps.{MayFinish, end_of, finishing}
use Rattle.interleaving_core.specs.Soundness.{IsInRange, HasRecords, IsPublishedOnce, IsBooked, IsRightRecord, IsSoundAt, IsSoundClaim, IsSound}
use Rattle.interleaving_core.specs.Growth.{Grows}
use Rattle.interleaving_core.proofs.Basics.{put_here, put_else, in_more}
use Rattle.interleaving_core.proofs.Frames.{record_grows, settled_as_grows, step_at_keeps}
use Rattle.interleaving_core.proofs.Parts.{published_more, published_else, booked_open}
use Rattle.interleaving_core.proofs.Claiming.{word_grows, HasClaim, claim_of, let_go, kept_claims}

-- ---- the word of an attempt that ended

pub ended-attempt : (a : ℕ) (xs : List ℕ) (r : Option ℕ) → (ended a xs r).attempt ≡ a
ended-attempt a xs (Some v) = refl
ended-attempt a xs None = refl

ended-idle : (a : ℕ) (xs : List ℕ) (r : Option ℕ) → is_idle (ended a xs r).state ≡ false
ended-idle a xs (Some v) = refl
ended-idle a xs None = refl

pub ended-settled : (a : ℕ) (xs : List ℕ) (r : Option ℕ) → is_settled (ended a xs r).state ≡ false
ended-settled a xs (Some v) = refl
ended-settled a xs None = refl

ended-small : (high a : ℕ) (xs : List ℕ) (r : Option ℕ) → ((v : ℕ) → r ≡ Some v → v ≤ high) → get_or xs 0 0 ≤ high → (ended a xs r).value ≤ high
ended-small high a xs (Some v) small first = small v refl
ended-small high a xs None small first = first

ended_range : (p : Plan) (cap a : ℕ) (xs : List ℕ) (r : Option ℕ) → IsPlan p → cap < most_attempts → 1 ≤ a → a ≤ cap + 1 → (ended a xs r).value ≤ high_of p → IsInRange p cap (ended a xs r)
ended_range p cap a xs (Some v) valid small_cap first most small = record {
  small = small;
  word = record { small = le_trans small (high_of-small p valid); first = first; last = omega arith; blank = λ is. absurd (false≢true is); by_worker = λ is. absurd (false≢true is); by_none = λ is. refl };
  most = most;
  spread = λ is. absurd (cc);
}
ended_range p cap a xs None valid small_cap first most small = record {
  small = small;
  word = record { small = le_trans small (high_of-small p valid); first = first; last = omega arith; blank = λ is. absurd (false≢true is); by_worker = λ is. absurd (false≢true is); by_none = λ is. refl };
  most = most;
  spread = λ is. absurd (cc);
}

-- what of its soundness does not follow from its state
record IsEnd (p : Plan) (cap : ℕ) (d : Core) (o a : ℕ) (xs : List ℕ) (w : OpWord) : Type 0 where
  range : IsInRange p cap w
  kept : HasRecords p (d.recorded o) o xs a
  published : IsPublishedOnce d.published o w
  booked : IsBooked d.settlings o w
  last : a ≡ cap + 1 → (j : ℕ) (r : Record) → j < places p o → d.recorded o j ≡ Some r → IsSettledAs d (origin_at p o j) r.value
  records : (j : ℕ) (r : Record) → j < places p o → d.recorded o j ≡ Some r → IsRightRecord p d o w j r

ended_sound : (p : Plan) (cap : ℕ) (d : Core) (o a : ℕ) (xs : List ℕ) (r : Option ℕ) → value_of (op_at p o).op xs ≡ r → IsEnd p cap d o a xs (ended a xs r) → IsSoundAt p cap d o (ended a xs r)
ended_sound p cap d o a xs (Some v) is end = record {
  range = end.range;
  held = λ at. absurd (cc);
  follows = record { run = λ at. (xs, end.kept, ap (ended a xs) (sym is)); spread = λ at. absurd (cc) };
  published = end.published;
  settled = λ at. absurd (cc);
  aborted = λ at. absurd (cc);
  booked = end.booked;
  last = λ at. end.last;
  records = end.records;
}
ended_sound p cap d o a xs None is end = record {
  range = end.range;
  held = λ at. absurd (cc);
  follows = record { run = λ at. (xs, end.kept, ap (ended a xs) (sym is)); spread = λ at. absurd (cc) };
  published = end.published;
  settled = λ at. absurd (cc);
  aborted = λ at. absurd (cc);
  booked = end.booked;
  last = λ at. end.last;
  records = end.records;
}

module _ (p : Plan) (cap : ℕ) (valid : IsPlan p) (small_cap : cap < most_attempts) (c : Core) (sound : IsSound p cap c) where
  -- what a worker fetched are values
  pub held_small : (t : ℕ) (h : Held) → c.claim t ≡ Some h → (j : ℕ) → j < length h.values → get_or h.values j 0 ≤ high_of p
  held_small t h is j below =
      let claim : IsSoundClaim p cap c t h = sound.each_claim t h is in
      let in_places : j < places p h.op = (let few = claim.few in omega arith) in
      let right : IsRightRecord p c h.op (c.word h.op) j (record { value = get_or h.values j 0; attempt = h.attempt }) =
      (sound.each_op h.op claim.in_range).records j _ in_places (claim.records j below) in
      right.small

  module _ (o t : ℕ) (may : MayFinish p c o t) where
    abbrev v : OpWord
    v = c.word o

    abbrev xs : List ℕ
    xs = fetched (c.claim t)

    abbrev w : OpWord
    w = end_of p c o t

    abbrev d : Core
    d = finishing p c o t

    here : IsSoundAt p cap c o (c.word o)
    here = sound.each_op o may.goes_from.in_range

    mine : HasClaim p cap valid small_cap c sound o t
    mine = claim_of p cap valid small_cap c sound o t may.goes_from

    idle : is_idle v.state ≡ true
    idle = ap is_idle may.goes_from.state_is

    unsettled : is_settled v.state ≡ false
    unsettled = ap is_settled may.goes_from.state_is

    pub finishing_grows : Grows p c (finishing p c o t)
    finishing_grows =
        word_grows p c d o w refl (let same = ended-attempt v.attempt xs (value_of (op_at p o).op xs) in omega arith) unsettled
        (λ e inside. in_more c.published (entry_of o w) e inside) (λ i j e lt inside op_is attempt_is. refl) (λ i b is. is) (λ x inside. inside)

    values_are : xs ≡ mine.held.values
    values_are = ap fetched mine.is

    values_small : (j : ℕ) → j < length xs → get_or xs j 0 ≤ high_of p
    values_small j below =
        subst (λ ys. get_or ys j 0 ≤ high_of p) (sym values_are) (held_small t mine.held mine.is j (subst (λ n. j < n) (ap length values_are) below))

    word_small : w.value ≤ high_of p
    word_small =
        ended-small (high_of p) v.attempt xs (value_of (op_at p o).op xs)
        (λ x is. value_of-within (high_of p) (op_at p o).op xs x is (valid.numbering.shaped o may.goes_from.in_range) (op_under p valid (high_of p) (le_refl (high_of p)) o may.goes_from.in_range).1
        (All-from_get_or (λ y. y ≤ high_of p) xs 0 values_small))
        (values_small 0 (let all = may.all_fetched in omega arith))

    -- all places were fetched in this attempt
    kept : HasRecords p (c.recorded o) o xs v.attempt
    kept = record {
      len = may.all_fetched;
      each = λ j below.
          let fetched_here : j < length mine.held.values = subst (λ n. j < n) (sym may.all_fetched ∙ ap length values_are) below in
          ap (λ i. c.recorded i j) (sym mine.op_is) ∙ mine.claim.records j fetched_here
          ∙ ap (λ a. Some (record { value = get_or mine.held.values j 0; attempt = a })) mine.attempt_is
          ∙ ap (λ ys. Some (record { value = get_or ys j 0; attempt = v.attempt })) (sym values_are);
    }

    last_settled : v.attempt ≡ cap + 1 → (j : ℕ) (r : Record) → j < places p o → c.recorded o j ≡ Some r → IsSettledAs c (origin_at p o j) r.value
    last_settled at_last j r below is =
        let fetched_here : j < length mine.held.values = subst (λ n. j < n) (sym may.all_fetched ∙ ap length values_are) below in
        let stands : IsSettledAs c (origin_at p mine.held.op j) (get_or mine.held.values j 0) = mine.claim.last (mine.attempt_is ∙ at_last) j fetched_here in
        let same : record { value = get_or xs j 0; attempt = v.attempt } ≡ r = same_Some _ r (sym (kept.each j below) ∙ is) in
        let value_is : get_or mine.held.values j 0 ≡ r.value = ap (λ ys. get_or ys j 0) (sym values_are) ∙ ap (λ (k : Record). k.value) same in
        subst (IsSettledAs c (origin_at p o j)) value_is (subst (λ i. IsSettledAs c (origin_at p i j) (get_or mine.held.values j 0)) mine.op_is stands)

    attempt_same : w.attempt ≡ v.attempt
    attempt_same = ended-attempt v.attempt xs (value_of (op_at p o).op xs)

    unseen : entries_at o w.attempt c.published ≡ 0
    unseen = ap (λ a. entries_at o a c.published) attempt_same ∙ here.published.not_yet idle

    end : IsEnd p cap d o v.attempt xs w
    end = record {
      range = ended_range p cap v.attempt xs (value_of (op_at p o).op xs) valid small_cap here.range.word.first here.range.most word_small;
      kept = kept;
      published =
          published_more c.published o v w (let first = here.range.word.first in let same = attempt_same in omega arith) (let same = attempt_same in omega arith) unseen
          (ended-idle v.attempt xs (value_of (op_at p o).op xs)) here.published;
      booked = booked_open c.settlings o v w unsettled (ended-settled v.attempt xs (value_of (op_at p o).op xs)) here.booked;
      last = λ at_last j r below is. settled_as_grows p c d finishing_grows (origin_at p o j) r.value (last_settled at_last j r below is);
      records = λ j r below is.
          record_grows p c d finishing_grows o v w j r (let same = attempt_same in omega arith) (here.records j r below is);
    }

    pub finishing_keeps : IsSound p cap (finishing p c o t)
    finishing_keeps =
        step_at_keeps p cap o c d sound (record {
          in_range = may.goes_from.in_range;
          grows = finishing_grows;
          words = λ i other. put_else c.word o w i other;
          records = λ i other. refl;
          claims = kept_claims p cap valid small_cap c sound o t may.goes_from;
          own_claims = λ s h is. inl (let_go p cap valid small_cap c sound o t may.goes_from s h is);
          published = λ i u other was. published_else c.published (entry_of o w) i u (λ same. other (sym same)) was;
          booked = λ i u other was. was;
          decisions = λ i b is. is;
          entries = λ e inside.
              elim (Contains-push_cases c.published (entry_of o w) e inside) [
                | inl old ↦ sound.entries e old
                | inr new ↦
                    (subst (λ (x : Entry). x.op < op_count p) new may.goes_from.in_range, subst (λ (x : Entry). x.value ≤ high_of p) new word_small)
              ];
          settlings = sound.settlings;
          sound_at =
              subst (IsSoundAt p cap d o) (sym (put_here c.word o w))
              (ended_sound p cap d o v.attempt xs (value_of (op_at p o).op xs) refl end);
        })
