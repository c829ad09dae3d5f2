-- What one worker counts that runs a batch alone.
use Rattle.std.proofs.Common.{◌≡◌, ℕ, ◌+◌, ◌<◌, eqb, ◌&&◌, List, [], ◌∷◌, ◌++◌, refl, sym, ap, ◌∙◌, subst, arith, Some, append_assoc}
use Rattle.std.specs.Prelude.{Contains, sum_by, slice_index}
use Rattle.std.proofs.lemmas.Bool.{eq-eqb, and_from}
use Rattle.morph_base.specs.declared.plan.Plan.{Plan}
use Rattle.morph_base.specs.declared.plan.Origin.{Origin}
use Rattle.morph_base.specs.declared.plan.Origin.TheVariants.{Base, Op as Written}
use Rattle.morph_base.specs.declared.word.OpWord.{OpWord}
use Rattle.morph_base.specs.Clean.{from, source}
use Rattle.morph_base.specs.Graphs.{below}
use Rattle.morph_base.specs.Guesses.{stale_count}
use Rattle.morph_base.specs.Plans.{IsPlan, op_count, origin_at, final}
use Rattle.morph_base.proofs.OutcomeLaws.{source_precedes}
use Rattle.interleaving_core.specs.declared.entry.Entry.{Entry}
use Rattle.interleaving_core.specs.declared.entry.Record.{Record}
use Rattle.interleaving_core.specs.declared.event.CoreEvent.{CoreEvent}
use Rattle.interleaving_core.specs.Core.{Core, blocked, entry_of, has_run, places, IsSettledAs}
use Rattle.interleaving_core.specs.Counts.{evaluated, rolled, shown_now, IsExplored, AreAgreed}
use Rattle.interleaving_core.specs.Sightings.{IsRecordNoted}
use Rattle.interleaving_core.specs.Steps.{Run}
use Rattle.interleaving_core.proofs.Basics.{count_some}
use Rattle.interleaving_core.proofs.Bounds.{sum_equal, evaluated-rolled}
use Rattle.interleaving_core.proofs.Ordering.{run_same}
use Rattle.interleaving_core.proofs.Sources.{settled_right}
use Rattle.interleaving_core.proofs.Stale.{one_small, rolled-stale, run_shown}
use Rattle.op_words.specs.declared.trail.View.{View}
use Rattle.op_words.specs.Closing.{EndsSound}
use Rattle.op_words.specs.Plays.{IsTold}
use Rattle.op_words.specs.Trails.{last_word}
use Rattle.op_words.specs.Views.{IsLone, IsSettledSeen}
use Rattle.op_words.proofs.Noting.{noted_present, noted_source}
use Rattle.op_words.proofs.Sizes.{range_size}
use Rattle.op_eval.specs.declared.runner.Runner.{Runner}
use Rattle.op_eval.specs.Running.{hand_view}
use Rattle.op_eval.specs.Alone.{Ran}
use Rattle.op_eval.specs.Turns.{TakingCall, Took, Tried}
use Rattle.abort_lazy.specs.Sweeps.{MakesCalls}
use Rattle.abort_lazy.specs.Transactions.{IsSettledOn}
use Rattle.abort_lazy.proofs.Agreeing.{settles_on}

-- steps are put before those that there were
calls_steps : (p : Plan) (cs : List TakingCall) (a b : Runner) → MakesCalls p cs a b → (es : List CoreEvent) × ((hand_view b).events ≡ es ++ (hand_view a).events)
calls_steps p [] a b calls = ([], ap (λ r. (hand_view r).events) calls)
calls_steps p (Took c n ∷ cs) a b calls = let before = calls_steps p cs a calls.0 calls.1 in (before.0, ap (λ (v : View). v.events) calls.2.view ∙ before.1)
calls_steps p (Tried i ∷ cs) a b calls =
    let before = calls_steps p cs a calls.0 calls.1 in
    let does = calls.2.1.does in
    let more = does.goes.adds.events in
    (more.0 ++ before.0, more.1 ∙ ap (λ es. more.0 ++ es) before.1 ∙ sym (append_assoc more.0 before.0 (hand_view a).events))

-- a lone root that explored all, and saw nothing settled, and then settled all and left nothing
pub record IsLoneRun (p : Plan) (m b : Runner) : Type 0 where
  pub lone : IsLone (hand_view m)
  pub told : IsTold (hand_view m)
  pub plan : (hand_view m).plan.value ≡ p
  pub cap : (hand_view m).cap ≡ 1
  pub ran : (o : ℕ) → o < op_count p → Ran (hand_view m).trail o
  pub unseen : (o : ℕ) → IsSettledSeen (hand_view m) o → ⊥
  pub calls : List TakingCall
  pub made : MakesCalls p calls m b
  pub none : b.kept.items ≡ []
  pub settled : (o : ℕ) → o < op_count p → IsSettledSeen (hand_view b) o
  pub alone : (hand_view b).made ≡ 1

module _ (p : Plan) (valid : IsPlan p) (some : (o : ℕ) → o < op_count p → 0 < places p o) (m b : Runner) (run : IsLoneRun p m b) {counters : ℕ} {ws : List ℕ} (end : EndsSound p 1 counters ws (hand_view b)) where
  abbrev core : Core
  core = end.core

  on : (o : ℕ) → o < op_count p → IsSettledOn p (hand_view b) o
  on o lt = settles_on p valid o lt run.calls m b run.lone run.told.noted run.made run.none (run.unseen o) (run.settled o lt)

  module _ (o : ℕ) (lt : o < op_count p) where
    abbrev judged_word : OpWord
    judged_word = (on o lt).word

    same_attempt : (core.word o).attempt ≡ judged_word.attempt
    same_attempt = ap (λ (w : OpWord). w.attempt) (noted_present end.noted (on o lt).seen) ∙ (on o lt).attempt_is

    -- its records are those of the word at which it was judged
    noted_record : (j : ℕ) → j < places p o → IsRecordNoted core o j (slice_index (on o lt).judged.values j) judged_word
    noted_record j below = end.noted.records _ ((on o lt).judged.records.each j below)

    source_final : (j x : ℕ) (q : Origin) → j < places p o → origin_at p o j ≡ q → IsSettledAs core q x → x ≡ from (final p) q
    source_final j x (Base v) below same is = sym is.1
    source_final j x (Written s) below same is = sym is.1 ∙ settled_right p 1 valid core end.sound s (source_precedes p o j s valid lt below same).in_range is.0

    agreed_at : (j : ℕ) → j < places p o → (r : Record) × (core.recorded o j ≡ Some r) × (r.value ≡ source p (final p) o j)
    agreed_at j below =
        let judged = (on o lt).judged in
        let k = (noted_record j below).same (run_shown judged_word.state judged.ran) same_attempt in
        (k.0, k.1, k.2 ∙ source_final j (slice_index judged.values j) (origin_at p o j) below refl (noted_source end.noted (origin_at p o j) (slice_index judged.values j) (judged.sources j below)))

    shown_once : shown_now core o ≡ 1
    shown_once =
        let judged = (on o lt).judged in
        let there : Contains core.published (entry_of o judged_word) = (noted_record 0 (some o lt)).under.shown (run_shown judged_word.state judged.ran) in
        let a : ℕ = (core.word o).attempt in
        let most = (end.sound.each_op o lt).published.once a in
        let least =
        count_some (λ (e : Entry). eqb e.op o && eqb e.attempt a) core.published (entry_of o judged_word) there
        (and_from (eqb o o) (eqb judged_word.attempt a) (eq-eqb o o refl) (eq-eqb judged_word.attempt a (sym same_attempt))) in
        omega (arith, most, least)

  agreed : AreAgreed p core
  agreed = record { each = λ o j lt below at. agreed_at o lt j below }

  explored : (c : Core) → Run p 1 (hand_view m).events c → IsExplored p c
  explored c steps =
      let done = run.told.done run.lone in
      let own : Run p 1 (hand_view m).events done.core = subst (λ (z : Plan × ℕ). Run z.0 z.1 (hand_view m).events done.core) (λ a. (run.plan a, run.cap a)) done.run in
      let same : c ≡ done.core = run_same p 1 (hand_view m).events c done.core steps own in
      let word : (o : ℕ) → o < op_count p → c.word o ≡ last_word o (blocked 1) (hand_view m).trail = λ o lt.
      ap (λ (d : Core). d.word o) same ∙ done.present.each o (subst (λ q. o < op_count q) (sym run.plan) lt) in
      record {
        ran = λ o lt. ap (λ (w : OpWord). has_run w.state) (word o lt) ∙ (run.ran o lt).0;
        first = λ o lt. ap (λ (w : OpWord). w.attempt) (word o lt) ∙ (run.ran o lt).1;
      }

  history_is : (es : List CoreEvent) × (end.history ≡ es ++ (hand_view m).events)
  history_is = let steps = calls_steps p run.calls m b run.made in (steps.0, end.only run.alone ∙ steps.1)

  pub rolled_alone : rolled end.history ≡ stale_count p
  rolled_alone =
      let es = history_is in
      ap rolled es.1 ∙ rolled-stale p valid es.0 (hand_view m).events core (subst (λ l. Run p 1 l core) es.1 end.run) explored agreed

  pub evaluated_alone : evaluated end.history ≡ op_count p + rolled end.history
  evaluated_alone =
      let whole = evaluated-rolled p 1 valid one_small end.history core end.run in
      let ones : sum_by (shown_now core) (below (op_count p)) ≡ sum_by (λ (o : ℕ). 1) (below (op_count p)) = sum_equal (shown_now core) (λ o. 1) (op_count p) shown_once in
      let many = range_size 0 (op_count p) in
      omega (arith, whole, ones, many)
