-- As long as an attempt that was shown is the present one, the operation has a record at each place that it reads.
use Rattle.std.proofs.Common.{◌≡◌, ◌⊎◌, ℕ, zero, suc, ◌<◌, Bool, true, false, List, [], ◌∷◌, ◌++◌, refl, sym, ap, ◌∙◌, subst, inl, inr, arith, Option, Some, None, not-suc-le-zero}
use Rattle.std.specs.Prelude.{Contains}
use Rattle.std.proofs.lemmas.Bool.{false≢true}
use Rattle.std.proofs.lemmas.List.Elements.{Contains-append_cases}
use Rattle.morph_base.specs.Limits.{most_attempts}
use Rattle.morph_base.specs.declared.plan.Plan.{Plan}
use Rattle.morph_base.specs.declared.word.OpState.{OpState}
use Rattle.morph_base.specs.declared.word.OpState.TheVariants.{Blocked, Ready, Claimed, Executed, Failed, Spread, Settled, SettledAborted}
use Rattle.morph_base.specs.declared.word.OpWord.{OpWord}
use Rattle.morph_base.specs.Functions.{value_of}
use Rattle.morph_base.specs.Plans.{IsPlan, op_at, event_of}
use Rattle.morph_base.specs.Words.{is_idle, is_settled, has_run}
use Rattle.interleaving_core.specs.declared.entry.Record.{Record}
use Rattle.interleaving_core.specs.declared.entry.Entry.{Entry}
use Rattle.interleaving_core.specs.declared.event.CoreEvent.{CoreEvent}
use Rattle.interleaving_core.specs.declared.event.CoreEvent.TheVariants.{Ready as ReadyStep, Claim, Fetch, Finish, GiveBack, Spread as SpreadStep, RollBack, Decide, Settle}
use Rattle.interleaving_core.specs.Core.{Core, fetched, entries_at, places, entry_of}
use Rattle.interleaving_core.specs.Growth.{Grows}
use Rattle.interleaving_core.specs.Soundness.{IsSound, IsSoundAt}
use Rattle.interleaving_core.specs.Steps.{after, end_of, spread_of, settling, Run}
use Rattle.interleaving_core.proofs.Basics.{put_here, entries-some}
use Rattle.interleaving_core.proofs.Finishing.{ended-settled}
use Rattle.interleaving_core.proofs.Machine.{run_sound, step_grows}

-- there is a record at the place
abbrev IsRecorded : Core → ℕ → ℕ → Type 0
IsRecorded c o j = (k : Record) × (c.recorded o j ≡ Some k)

module _ (p : Plan) (c : Core) where
  new_entry : (es : List Entry) (o : ℕ) (w : OpWord) (e : Entry) → c.published ≡ es ++ entry_of o w ∷ [] → c.word o ≡ w → is_settled w.state ≡ false → Contains c.published e
      → Contains es e ⊎ (is_settled (c.word e.op).state ≡ false)
  new_entry es o w e is word unsettled inside =
      elim (Contains-append_cases es (entry_of o w ∷ []) e (subst (λ xs. Contains xs e) is inside)) [
        | inl old ↦ inl old
        | inr (zero, lt, same) ↦ inr (ap (λ (x : Entry). is_settled (c.word x.op).state) (sym same) ∙ ap (λ (x : OpWord). is_settled x.state) word ∙ unsettled)
        | inr (suc k, lt, same) ↦ absurd (omega (arith, lt))
      ]

  settled_entries : (o t : ℕ) (d : Option Bool) (e : Entry) → Contains (settling p c o t d).published e → Contains c.published e
  settled_entries o t None e inside = inside
  settled_entries o t (Some true) e inside = inside
  settled_entries o t (Some false) e inside = inside

-- what is shown after a step was shown before, or its operation is not settled
old_or_open : (p : Plan) (c : Core) (s : CoreEvent) (e : Entry) → Contains (after p c s).published e → Contains c.published e ⊎ (is_settled ((after p c s).word e.op).state ≡ false)
old_or_open p c (ReadyStep o) e inside = inl inside
old_or_open p c (Claim o t) e inside = inl inside
old_or_open p c (Fetch o j t x) e inside = inl inside
old_or_open p c (Finish o t) e inside =
    new_entry p (after p c (Finish o t)) c.published o (end_of p c o t) e refl (put_here c.word o (end_of p c o t))
    (ended-settled (c.word o).attempt (fetched (c.claim t)) (value_of (op_at p o).op (fetched (c.claim t)))) inside
old_or_open p c (GiveBack o t) e inside = inl inside
old_or_open p c (SpreadStep o sibling) e inside =
    new_entry p (after p c (SpreadStep o sibling)) c.published o (spread_of p c o) e refl (put_here c.word o (spread_of p c o)) refl inside
old_or_open p c (RollBack o j) e inside = inl inside
old_or_open p c (Decide i committed) e inside = inl inside
old_or_open p c (Settle o t) e inside = inl (settled_entries p c o t (c.decision (event_of p o)) e inside)

module _ (p : Plan) (cap : ℕ) (valid : IsPlan p) (small_cap : cap < most_attempts) where
  -- by the word's state, where it is not settled
  open_recorded : (c : Core) → IsSound p cap c → (e : Entry) → Contains c.published e → e.attempt ≡ (c.word e.op).attempt → is_settled (c.word e.op).state ≡ false
      → (j : ℕ) → j < places p e.op → IsRecorded c e.op j
  open_recorded c sound e inside present unsettled j lt = by_state (c.word e.op).state refl
    where
      here : IsSoundAt p cap c e.op (c.word e.op)
      here = sound.each_op e.op (sound.entries e inside).0

      shown_idle : entries_at e.op (c.word e.op).attempt c.published ≡ 0 → ⊥
      shown_idle none = entries-some e.op (c.word e.op).attempt c.published e inside refl present none

      by_state : (s : OpState) → (c.word e.op).state ≡ s → IsRecorded c e.op j
      by_state Blocked is = absurd (shown_idle (here.published.not_yet (ap is_idle is)))
      by_state Ready is = absurd (shown_idle (here.published.not_yet (ap is_idle is)))
      by_state Claimed is = absurd (shown_idle (here.published.not_yet (ap is_idle is)))
      by_state Executed is = let run = here.follows.run (ap has_run is) in (_, run.1.each j lt)
      by_state Failed is = let run = here.follows.run (ap has_run is) in (_, run.1.each j lt)
      by_state Spread is = let run = here.follows.spread is in (_, run.1.each j lt)
      by_state Settled is = absurd (false≢true (sym unsettled ∙ ap is_settled is))
      by_state SettledAborted is = absurd (false≢true (sym unsettled ∙ ap is_settled is))

  pub shown_recorded : (es : List CoreEvent) (c : Core) → Run p cap es c → (e : Entry) → Contains c.published e → e.attempt ≡ (c.word e.op).attempt → (j : ℕ) → j < places p e.op → IsRecorded c e.op j
  shown_recorded [] c run e inside present j lt = absurd (not-suc-le-zero (subst (λ (x : Core). Contains x.published e) run inside).1)
  shown_recorded (s ∷ es) c run e inside present j lt =
      let b : Core = run.0 in
      let sound_before = run_sound p cap valid small_cap es b run.1 in
      let grows : Grows p b c = subst (Grows p b) (sym run.3) (step_grows p cap valid small_cap b sound_before s run.2) in
      let sound_after = run_sound p cap valid small_cap (s ∷ es) c run in
      elim (old_or_open p b s e (subst (λ (x : Core). Contains x.published e) run.3 inside)) [
        | inl old ↦
            let known = sound_before.entries e old in
            let below = ((sound_before.each_op e.op known.0).published.below e old refl).1 in
            let rises = grows.attempts e.op in
            let at : e.attempt ≡ (b.word e.op).attempt = omega (arith, below, rises, present) in
            let k = shown_recorded es b run.1 e old at j lt in
            (k.0, grows.records e.op j e known.0 old refl present ∙ k.1)
        | inr unsettled ↦ open_recorded c sound_after e inside present (ap (λ (x : Core). is_settled (x.word e.op).state) run.3 ∙ unsettled) j lt
      ]
