-- An operation is settled: with its own value where its event commits, else with that of its target's source.
use Rattle.std.proofs.Common.{◌≡◌, ◌≢◌, ℕ, ◌<◌, true, false, List, [], ◌∷◌, ◌++◌, map, refl, sym, ap, ◌∙◌, subst, inl, inr, arith, Option, Some, None, zero-lt-suc, le_trans}
use Rattle.std.specs.Prelude.{Contains}
use Rattle.std.proofs.lemmas.Bool.{true≢false, false≢true}
use Rattle.std.proofs.lemmas.List.Elements.{Contains-push_cases}
use Rattle.std.proofs.lemmas.Option.{same_Some}
use Rattle.morph_base.specs.Limits.{most_attempts}
use Rattle.morph_base.specs.declared.plan.Plan.{Plan}
use Rattle.morph_base.specs.declared.word.OpState.{OpState}
use Rattle.morph_base.specs.declared.word.OpState.TheVariants.{Blocked, Ready, Claimed, Executed, Failed, Spread, Settled, SettledAborted}
use Rattle.morph_base.specs.declared.word.OpWord.{OpWord}
use Rattle.morph_base.specs.Functions.{value_of}
use Rattle.morph_base.specs.Plans.{IsPlan, op_count, op_at, event_of, origins_of}
use Rattle.morph_base.specs.Clean.{from, source, outcome}
use Rattle.morph_base.specs.Words.{is_settled}
use Rattle.morph_base.proofs.KnownLaws.{settles, settles_aborted}
use Rattle.morph_base.proofs.BoundLaws.{high_of-small}
use Rattle.interleaving_core.specs.declared.entry.Record.{Record}
use Rattle.interleaving_core.specs.declared.entry.Settling.{Settling}
use Rattle.interleaving_core.specs.Core.{Core, settled, settled_aborted, ended, has_run, is_shown, is_open, is_failed, entry_of, IsSettledIn, value_in}
use Rattle.interleaving_core.specs.Steps.{IsWorker, MaySettleCommitted, MaySettleAborted, settling}
use Rattle.interleaving_core.specs.Soundness.{HasRecords, IsSettledRight, IsAbortedRight, IsSoundAt, IsSound}
use Rattle.interleaving_core.specs.Growth.{Grows}
use Rattle.interleaving_core.proofs.Basics.{put_here, put_else, in_more}
use Rattle.interleaving_core.proofs.Frames.{record_grows, settled_right_grows, aborted_right_grows, step_at_keeps}
use Rattle.interleaving_core.proofs.Parts.{published_same, booked_more, booked_else}
use Rattle.interleaving_core.proofs.Sources.{settled_right, settled_small, sources_are}
use Rattle.interleaving_core.proofs.Claiming.{word_grows, no_claim}

-- an executed word has its function's answer
pub executed_answer : (a : ℕ) (xs : List ℕ) (r : Option ℕ) (w : OpWord) → w ≡ ended a xs r → w.state ≡ Executed → r ≡ Some w.value
executed_answer a xs (Some v) w is state = ap (λ (u : OpWord). Some u.value) (sym is)
executed_answer a xs None w is state = let both : Failed ≡ Executed = ap (λ (u : OpWord). u.state) (sym is) ∙ state in absurd (cc)

pub open_unsettled : (st : OpState) → is_open st ≡ true → is_settled st ≡ false
open_unsettled Blocked is = refl
open_unsettled Ready is = refl
open_unsettled Claimed is = refl
open_unsettled Executed is = refl
open_unsettled Failed is = refl
open_unsettled Spread is = refl
open_unsettled Settled is = absurd (false≢true is)
open_unsettled SettledAborted is = absurd (false≢true is)

module _ (p : Plan) (cap : ℕ) (valid : IsPlan p) (small_cap : cap < most_attempts) (c : Core) (sound : IsSound p cap c) (o t : ℕ) (lt : o < op_count p) (worker : IsWorker t) where
  abbrev v : OpWord
  v = c.word o

  abbrev booking : Settling
  booking = record { op = o; by = t }

  here : IsSoundAt p cap c o (c.word o)
  here = sound.each_op o lt

  settlings_below : (x : Settling) → Contains (c.settlings ++ booking ∷ []) x → x.op < op_count p
  settlings_below x inside =
      elim (Contains-push_cases c.settlings booking x inside) [
        | inl old ↦ sound.settlings x old
        | inr new ↦ subst (λ (y : Settling). y.op < op_count p) new lt
      ]

  -- ---- of a committed event

  module _ (may : MaySettleCommitted p c o) where
    abbrev w : OpWord
    w = settled v.attempt v.value t

    abbrev d : Core
    d = settling p c o t (Some true)

    unsettled : is_settled v.state ≡ false
    unsettled = ap is_settled may.goes_from

    unclaimed : v.state ≢ Claimed
    unclaimed is = let both : Executed ≡ Claimed = sym may.goes_from ∙ is in absurd (cc)

    pub committing_grows : Grows p c (settling p c o t (Some true))
    committing_grows =
        word_grows p c d o w refl (omega arith) unsettled (λ e inside. inside) (λ i j e below inside op_is attempt_is. refl) (λ i b is. is) (λ x inside. in_more c.settlings booking x inside)

    -- the word's answer on its records is that on its settled sources
    answer : outcome p (value_in c) o ≡ Some v.value
    answer =
        let run = here.follows.run (ap has_run may.goes_from) in
        let xs : List ℕ = run.0 in
        let kept : HasRecords p (c.recorded o) o xs v.attempt = run.1 in
        let same : map (from (value_in c)) (origins_of p o) ≡ xs =
        sources_are p (value_in c) o xs valid lt kept.len
        (λ j below.
        let agrees = may.records j below in
        ap (λ (r : Record). r.value) (same_Some _ agrees.0 (sym (kept.each j below) ∙ agrees.1)) ∙ agrees.2) in
        ap (value_of (op_at p o).op) same ∙ executed_answer v.attempt xs (value_of (op_at p o).op xs) v run.2 may.goes_from

    right : IsSettledRight p c o w
    right = record {
      decided = may.decided;
      sources = may.sources;
      records = may.records;
      answer = answer;
      value_is =
          settles p (IsSettledIn c) (value_in c) valid (settled_right p cap valid c sound) o v.value lt may.sources
          (sound.decided (event_of p o) true may.decided).1 answer;
    }

    shown_same : entry_of o w ≡ entry_of o v
    shown_same = ap (λ b. record { op = o; attempt = v.attempt; value = v.value; failed = b }) (ap is_failed (sym may.goes_from))

    pub committing_keeps : IsSound p cap (settling p c o t (Some true))
    committing_keeps =
        step_at_keeps p cap o c d sound (record {
          in_range = lt;
          grows = committing_grows;
          words = λ i other. put_else c.word o w i other;
          records = λ i other. refl;
          claims = λ s h is other. is;
          own_claims = λ s h is. inl (is, no_claim p cap valid small_cap c sound o s h unclaimed is);
          published = λ i u other was. was;
          booked = λ i u other was. booked_else c.settlings booking i u (λ same. other (sym same)) was;
          decisions = λ i b is. is;
          entries = sound.entries;
          settlings = settlings_below;
          sound_at =
              subst (IsSoundAt p cap d o) (sym (put_here c.word o w))
              (record {
                range = record {
                  word = record {
                    small = here.range.word.small;
                    first = here.range.word.first;
                    last = here.range.word.last;
                    blank = λ is. absurd (false≢true is);
                    by_worker = λ is. (worker.first, worker.last);
                    by_none = λ is. absurd (true≢false is);
                  };
                  small = here.range.small;
                  most = here.range.most;
                  spread = λ is. absurd (cc);
                };
                held = λ is. absurd (cc);
                follows = record { run = λ is. absurd (false≢true is); spread = λ is. absurd (cc) };
                published = published_same c.published o v w refl (λ is. absurd (false≢true is)) (λ is. (ap is_shown may.goes_from, shown_same)) here.published;
                settled = λ is. settled_right_grows p c d committing_grows o w refl right;
                aborted = λ is. absurd (cc);
                booked = booked_more c.settlings o t v w unsettled refl refl here.booked;
                last = λ is. absurd (false≢true is);
                records = λ j r below is. record_grows p c d committing_grows o v w j r (omega arith) (here.records j r below is);
              });
        })

  -- ---- of an aborted event

  module _ (may : MaySettleAborted p c o) where
    abbrev x : ℕ
    x = source p (value_in c) o 0

    abbrev u : OpWord
    u = settled_aborted v.attempt x t

    abbrev next : Core
    next = settling p c o t (Some false)

    open_before : is_settled v.state ≡ false
    open_before = open_unsettled v.state may.goes_from

    free_before : v.state ≢ Claimed
    free_before is = false≢true (ap is_open (sym is) ∙ may.goes_from)

    pub aborting_grows : Grows p c (settling p c o t (Some false))
    aborting_grows =
        word_grows p c next o u refl (omega arith) open_before (λ e inside. inside) (λ i j e below inside op_is attempt_is. refl) (λ i b is. is) (λ y inside. in_more c.settlings booking y inside)

    carried : IsAbortedRight p c o u
    carried = record {
      decided = may.decided;
      target = may.target;
      carries = refl;
      value_is =
          settles_aborted p (IsSettledIn c) (value_in c) valid (settled_right p cap valid c sound) o lt may.target
          (sound.decided (event_of p o) false may.decided).1;
    }

    pub aborting_keeps : IsSound p cap (settling p c o t (Some false))
    aborting_keeps =
        step_at_keeps p cap o c next sound (record {
          in_range = lt;
          grows = aborting_grows;
          words = λ i other. put_else c.word o u i other;
          records = λ i other. refl;
          claims = λ s h is other. is;
          own_claims = λ s h is. inl (is, no_claim p cap valid small_cap c sound o s h free_before is);
          published = λ i y other was. was;
          booked = λ i y other was. booked_else c.settlings booking i y (λ same. other (sym same)) was;
          decisions = λ i b is. is;
          entries = sound.entries;
          settlings = settlings_below;
          sound_at =
              subst (IsSoundAt p cap next o) (sym (put_here c.word o u))
              (record {
                range = record {
                  word = record {
                    small = le_trans (settled_small p cap valid c sound o 0 lt (zero-lt-suc _) may.target) (high_of-small p valid);
                    first = here.range.word.first;
                    last = here.range.word.last;
                    blank = λ is. absurd (false≢true is);
                    by_worker = λ is. (worker.first, worker.last);
                    by_none = λ is. absurd (true≢false is);
                  };
                  small = settled_small p cap valid c sound o 0 lt (zero-lt-suc _) may.target;
                  most = here.range.most;
                  spread = λ is. absurd (cc);
                };
                held = λ is. absurd (cc);
                follows = record { run = λ is. absurd (false≢true is); spread = λ is. absurd (cc) };
                published = published_same c.published o v u refl (λ is. absurd (false≢true is)) (λ is. absurd (false≢true is)) here.published;
                settled = λ is. absurd (cc);
                aborted = λ is. aborted_right_grows p c next aborting_grows o u carried;
                booked = booked_more c.settlings o t v u open_before refl refl here.booked;
                last = λ is. absurd (false≢true is);
                records = λ j r below is. record_grows p c next aborting_grows o v u j r (omega arith) (here.records j r below is);
              });
        })
