-- Steps to the next attempt: an executed operation is spread, and an evaluated one is rolled back.
use Rattle.std.proofs.Common.{◌≡◌, ◌≢◌, ℕ, ◌+◌, ◌-◌, ◌<◌, ◌≤◌, true, false, List, get_or, refl, sym, ap, ◌∙◌, subst, inl, inr, arith, Some, zero-lt-suc, le_trans}
use Rattle.std.proofs.lemmas.Bool.{false≢true}
use Rattle.std.proofs.lemmas.List.Elements.{Contains-push_cases}
use Rattle.morph_base.specs.Limits.{most_attempts}
use Rattle.morph_base.specs.declared.plan.Plan.{Plan}
use Rattle.morph_base.specs.declared.word.OpState.{OpState}
use Rattle.morph_base.specs.declared.word.OpState.TheVariants.{Blocked, Ready, Claimed, Executed, Failed, Spread, Settled, SettledAborted}
use Rattle.morph_base.specs.declared.word.OpWord.{OpWord}
use Rattle.morph_base.specs.Plans.{high_of, IsPlan, op_count}
use Rattle.morph_base.specs.Words.{is_evaluated, is_settled}
use Rattle.morph_base.proofs.BoundLaws.{high_of-small}
use Rattle.interleaving_core.specs.declared.entry.Entry.{Entry}
use Rattle.interleaving_core.specs.Core.{Core, blocked, spread, has_run, record_value, entry_of}
use Rattle.interleaving_core.specs.Steps.{MaySpread, MayRollBack, spread_of, spreading, rolling_back}
use Rattle.interleaving_core.specs.Soundness.{IsInRange, HasRecords, IsRightRecord, IsSoundAt, IsSound}
use Rattle.interleaving_core.specs.Growth.{Grows}
use Rattle.interleaving_core.proofs.Basics.{put_here, put_else, in_more}
use Rattle.interleaving_core.proofs.Frames.{record_grows, step_at_keeps}
use Rattle.interleaving_core.proofs.Parts.{published_more, published_else, published_next, next_unseen, booked_open, blocked_range, blocked_sound}
use Rattle.interleaving_core.proofs.Claiming.{word_grows, no_claim}

-- an evaluated word is not settled, and nobody holds it
pub evaluated_unsettled : (st : OpState) → is_evaluated st ≡ true → is_settled st ≡ false
evaluated_unsettled Blocked is = refl
evaluated_unsettled Ready is = refl
evaluated_unsettled Claimed is = refl
evaluated_unsettled Executed is = refl
evaluated_unsettled Failed is = refl
evaluated_unsettled Spread is = refl
evaluated_unsettled Settled is = absurd (false≢true is)
evaluated_unsettled SettledAborted is = absurd (false≢true is)

spread_range : (p : Plan) (cap a x : ℕ) → IsPlan p → cap < most_attempts → 1 ≤ a → a < cap → x ≤ high_of p → IsInRange p cap (spread (a + 1) x)
spread_range p cap a x valid small_cap first below small = record {
  small = small;
  word = record { small = le_trans small (high_of-small p valid); first = omega arith; last = omega arith; blank = λ is. absurd (false≢true is); by_worker = λ is. absurd (false≢true is); by_none = λ is. refl };
  most = omega arith;
  spread = λ is. (omega arith, omega arith);
}

module _ (p : Plan) (cap : ℕ) (valid : IsPlan p) (small_cap : cap < most_attempts) (c : Core) (sound : IsSound p cap c) where
  -- ---- spread

  module _ (o sibling : ℕ) (may : MaySpread p cap c o sibling) where
    abbrev v : OpWord
    v = c.word o

    abbrev x : ℕ
    x = record_value (c.recorded o 0)

    abbrev w : OpWord
    w = spread_of p c o

    abbrev d : Core
    d = spreading p c o

    here : IsSoundAt p cap c o (c.word o)
    here = sound.each_op o may.in_range

    unsettled : is_settled v.state ≡ false
    unsettled = ap is_settled may.goes_from

    unclaimed : v.state ≢ Claimed
    unclaimed is = let both : Executed ≡ Claimed = sym may.goes_from ∙ is in absurd (cc)

    pub spreading_grows : Grows p c (spreading p c o)
    spreading_grows =
        word_grows p c d o w refl (omega arith) unsettled (λ e inside. in_more c.published (entry_of o w) e inside) (λ i j e lt inside op_is attempt_is. refl) (λ i b is. is) (λ y inside. inside)

    ran : (xs : List ℕ) × HasRecords p (c.recorded o) o xs v.attempt
    ran = let run = here.follows.run (ap has_run may.goes_from) in (run.0, run.1)

    first_record : c.recorded o 0 ≡ Some (record { value = get_or ran.0 0 0; attempt = v.attempt })
    first_record = ran.1.each 0 (zero-lt-suc _)

    value_is : x ≡ get_or ran.0 0 0
    value_is = ap record_value first_record

    value_small : x ≤ high_of p
    value_small =
        let right : IsRightRecord p c o v 0 (record { value = get_or ran.0 0 0; attempt = v.attempt }) = here.records 0 _ (zero-lt-suc _) first_record in
        subst (λ n. n ≤ high_of p) (sym value_is) right.small

    pub spreading_keeps : IsSound p cap (spreading p c o)
    spreading_keeps =
        step_at_keeps p cap o c d sound (record {
          in_range = may.in_range;
          grows = spreading_grows;
          words = λ i other. put_else c.word o w i other;
          records = λ i other. refl;
          claims = λ t h is other. is;
          own_claims = λ t h is. inl (is, no_claim p cap valid small_cap c sound o t h unclaimed is);
          published = λ i u other was. published_else c.published (entry_of o w) i u (λ same. other (sym same)) was;
          booked = λ i u other was. was;
          decisions = λ i b is. is;
          entries = λ e inside.
              elim (Contains-push_cases c.published (entry_of o w) e inside) [
                | inl old ↦ sound.entries e old
                | inr new ↦
                    (subst (λ (y : Entry). y.op < op_count p) new may.in_range, subst (λ (y : Entry). y.value ≤ high_of p) new value_small)
              ];
          settlings = sound.settlings;
          sound_at =
              subst (IsSoundAt p cap d o) (sym (put_here c.word o w))
              (record {
                range = spread_range p cap v.attempt x valid small_cap here.range.word.first may.below_cap value_small;
                held = λ is. absurd (cc);
                follows = record {
                  run = λ is. absurd (false≢true is);
                  spread = λ is.
                      let before : (v.attempt + 1) - 1 ≡ v.attempt = omega arith in
                      (ran.0, subst (HasRecords p (c.recorded o) o ran.0) (sym before) ran.1, value_is);
                };
                published = published_more c.published o v w (omega arith) (omega arith) (next_unseen c.published o v here.published) refl here.published;
                settled = λ is. absurd (cc);
                aborted = λ is. absurd (cc);
                booked = booked_open c.settlings o v w unsettled refl here.booked;
                last = λ is. absurd (false≢true is);
                records = λ j r below is. record_grows p c d spreading_grows o v w j r (omega arith) (here.records j r below is);
              });
        })

  -- ---- roll back

  module _ (o j : ℕ) (may : MayRollBack p cap c o j) where
    abbrev old : OpWord
    old = c.word o

    abbrev new : OpWord
    new = blocked (old.attempt + 1)

    abbrev next : Core
    next = rolling_back p c o

    was : IsSoundAt p cap c o (c.word o)
    was = sound.each_op o may.in_range

    open_before : is_settled old.state ≡ false
    open_before = evaluated_unsettled old.state may.goes_from

    free_before : old.state ≢ Claimed
    free_before is = false≢true (ap is_evaluated (sym is) ∙ may.goes_from)

    -- an operation is rolled back at most once an attempt, up to the cap
    pub within_cap : (c.word o).attempt ≤ cap
    within_cap =
        elim may.cause [
          | inl version ↦ (let below = version.below_cap in omega arith)
          | inr settled_ones ↦
              elim settled_ones [ inl spread_word ↦ (let below = spread_word.below_cap in omega arith) | inr at_cap ↦ (let is = at_cap.at_cap in omega arith) ]
        ]

    pub rolling_back_grows : Grows p c (rolling_back p c o)
    rolling_back_grows =
        word_grows p c next o new refl (omega arith) open_before (λ e inside. inside) (λ i k e lt inside op_is attempt_is. refl) (λ i b is. is) (λ y inside. inside)

    pub rolling_back_keeps : IsSound p cap (rolling_back p c o)
    rolling_back_keeps =
        step_at_keeps p cap o c next sound (record {
          in_range = may.in_range;
          grows = rolling_back_grows;
          words = λ i other. put_else c.word o new i other;
          records = λ i other. refl;
          claims = λ t h is other. is;
          own_claims = λ t h is. inl (is, no_claim p cap valid small_cap c sound o t h free_before is);
          published = λ i u other kept. kept;
          booked = λ i u other kept. kept;
          decisions = λ i b is. is;
          entries = sound.entries;
          settlings = sound.settlings;
          sound_at =
              subst (IsSoundAt p cap next o) (sym (put_here c.word o new))
              (blocked_sound p cap next o (old.attempt + 1)
              (blocked_range p cap small_cap (old.attempt + 1) (omega arith) (let most = within_cap in omega arith))
              (published_next c.published o old new refl refl was.published)
              (booked_open c.settlings o old new open_before refl was.booked)
              (λ k r below is. record_grows p c next rolling_back_grows o old new k r (omega arith) (was.records k r below is)));
        })
