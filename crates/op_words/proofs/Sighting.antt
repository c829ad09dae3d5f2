-- What a hand that finds a present word knows of it.
use Rattle.std.proofs.Common.{◌≡◌, ℕ, ◌<◌, true, false, length, refl, sym, ap, ◌∙◌, subst, inl, inr, Some, None}
use Rattle.std.proofs.lemmas.Option.{same_Some, none-some}
use mathlib.Core.Option.{some}
use lib.ListN.{get_elem?}
use Rattle.morph_base.specs.declared.plan.Plan.{Plan}
use Rattle.morph_base.specs.declared.plan.Origin.{Origin}
use Rattle.morph_base.specs.declared.word.OpWord.{OpWord}
use Rattle.morph_base.specs.Plans.{op_count, event_of, origin_at}
use Rattle.morph_base.specs.Words.{is_settled}
use Rattle.interleaving_core.specs.declared.entry.Record.{Record}
use Rattle.interleaving_core.specs.Core.{has_run, is_shown, IsSettledAs}
use Rattle.interleaving_core.specs.Soundness.{IsSoundAt}
use Rattle.interleaving_core.proofs.Sources.{settled_cases, settled_right}
use Rattle.interleaving_core.proofs.Stale.{run_shown}
use Rattle.op_words.specs.declared.trail.View.{View}
use Rattle.op_words.specs.Views.{IsSettledSeen, IsSourceSeen, IsRecordSeen}
use Rattle.op_words.specs.Rule.{Seats, Knows, Lawful}
use Rattle.op_words.specs.Plays.{IsRunResult, IsSight}
use Rattle.op_words.proofs.Noting.{noted_present, noted_source}

module _ {p : Plan} {cap counters : ℕ} (s : Seats) (lawful : Lawful p cap counters s) (i : ℕ) (v : View) (at : get_elem? s.views i ≡ some (Some v)) where
  knows : Knows p cap lawful.core (length s.views) i v
  knows = lawful.hands i v at

  -- a settled word that was seen is the present one
  pub seen_present : {o : ℕ} → (seen : IsSettledSeen v o) → lawful.core.word o ≡ seen.note.word
  seen_present seen = noted_present knows.noted seen

  -- the value of a source that was seen settled
  pub source_present : (q : Origin) (x : ℕ) → IsSourceSeen v q x → IsSettledAs lawful.core q x
  source_present q x is = noted_source knows.noted q x is

  -- an event that an operation was seen settled of is decided
  pub seen_decided : {o : ℕ} → o < op_count p → IsSettledSeen v o → lawful.core.decision (event_of p o) ≡ None → ⊥
  seen_decided {o} lt seen none =
      let here : IsSoundAt p cap lawful.core o (lawful.core.word o) = lawful.sound.each_op o lt in
      let state = ap (λ (w : OpWord). is_settled w.state) (seen_present seen) ∙ seen.settled in
      elim (settled_cases (lawful.core.word o).state state) [
        | inl is ↦ none-some true (sym none ∙ (here.settled is).decided)
        | inr is ↦ none-some false (sym none ∙ (here.aborted is).decided)
      ]

  module _ (o : ℕ) (lt : o < op_count p) where
    abbrev w : OpWord
    w = lawful.core.word o

    here : IsSoundAt p cap lawful.core o (lawful.core.word o)
    here = lawful.sound.each_op o lt

    -- the record that was seen under the present word, if it is shown
    pub record_present : (j x : ℕ) → is_shown (lawful.core.word o).state ≡ true → IsRecordSeen v o j (lawful.core.word o) x → (k : Record) × (lawful.core.recorded o j ≡ Some k) × (k.value ≡ x)
    record_present j x shown seen = (knows.noted.records _ seen).same shown refl

    has_run_at : has_run (lawful.core.word o).state ≡ true → IsRunResult p cap v o (lawful.core.word o)
    has_run_at ran =
        let run = here.follows.run ran in
        record {
          values = run.0;
          len = run.1.len;
          word_is = run.2;
          records = λ j x below seen.
              let k = record_present j x (run_shown (lawful.core.word o).state ran) seen in
              sym k.2 ∙ ap (λ (r : Record). r.value) (same_Some _ _ (sym k.1 ∙ run.1.each j below));
          last = λ last j x below seen.
              let stands = here.last ran last j _ below (run.1.each j below) in
              let known = source_present (origin_at p o j) x seen in
              sym known.1 ∙ stands.1;
        }

    sight_in : IsSight p cap v o (lawful.core.word o)
    sight_in = record {
      most = here.range.most;
      spread = λ is. (here.range.spread is).1;
      settled = λ is. settled_right p cap lawful.valid lawful.core lawful.sound o lt is;
      run = has_run_at;
    }

    pub sight_at : IsSight v.plan.value v.cap v o (lawful.core.word o)
    sight_at = subst (λ (z : Plan × ℕ). IsSight z.0 z.1 v o (lawful.core.word o)) (λ a. (sym knows.plan a, sym knows.cap_is a)) sight_in
