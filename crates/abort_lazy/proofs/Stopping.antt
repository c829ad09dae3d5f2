-- Why settling an event stops, and why a lone root is never stopped.
use Rattle.std.proofs.Common.{◌≡◌, ◌≢◌, ◌⊎◌, ℕ, ◌<◌, Bool, true, false, List, ◌++◌, refl, sym, ap, ◌∙◌, subst, inl, inr, arith, None}
use Rattle.std.specs.Prelude.{Contains, slice_index}
use Rattle.std.proofs.lemmas.Bool.{false≢true}
use Rattle.std.proofs.lemmas.List.Elements.{Contains-append_right, Contains-append_cases}
use Rattle.morph_base.specs.declared.plan.Plan.{Plan}
use Rattle.morph_base.specs.declared.plan.Origin.{Origin}
use Rattle.morph_base.specs.declared.plan.Origin.TheVariants.{Base, Op as Written}
use Rattle.morph_base.specs.declared.word.OpState.{OpState}
use Rattle.morph_base.specs.declared.word.OpState.TheVariants.{Blocked, Ready, Claimed, Executed, Failed, Spread, Settled, SettledAborted}
use Rattle.morph_base.specs.declared.word.OpWord.{OpWord}
use Rattle.morph_base.specs.Plans.{InEvent, event_of, origin_at, verdict, final}
use Rattle.morph_base.specs.Clean.{outcome}
use Rattle.morph_base.specs.Words.{is_settled}
use Rattle.interleaving_core.specs.Core.{has_run}
use Rattle.op_words.specs.declared.answers.Outcome.{Outcome}
use Rattle.op_words.specs.declared.trail.Item.{Item}
use Rattle.op_words.specs.declared.trail.View.{View}
use Rattle.op_words.specs.Trails.{loaded, HasLast, IsDisturbed, IsSourceOf, IsShaken, OwnOn, NoneOwn, ComeFirst}
use Rattle.op_words.specs.Views.{IsSettledSeen, IsRecordSeen, IsJudged, AddsAndFrees}
use Rattle.op_words.specs.Calls.{IsReadValue, IsSettledRead, IsSourceOpen}
use Rattle.op_words.specs.Judging.{IsStaleAt, IsStaleWord, IsOwnUnready, IsOwnUnsettled}
use Rattle.op_words.proofs.Trailing.{cases_word, last_later, one_last, disturbed_later, disturbed_more, stays_or, changed}
use Rattle.op_words.proofs.Adding.{lone_more}
use Rattle.op_eval.specs.Evaluations.{IsEvaluated}
use Rattle.op_eval.proofs.Following.{claimed_other, found_other}
use Rattle.abort_lazy.specs.declared.transaction.TxnAnswer.{TxnAnswer}
use Rattle.abort_lazy.specs.declared.transaction.TxnAnswer.TheVariants.{Settled as AllSettled, NotYet, Busy}
use Rattle.abort_lazy.specs.Transactions.{AnswersWithCause}
use Rattle.abort_lazy.specs.declared.transaction.standing.Grounds.{Grounds}
use Rattle.abort_lazy.specs.declared.transaction.standing.Say.{Say}
use Rattle.abort_lazy.specs.declared.transaction.standing.Say.TheVariants.{Commit, Abort, Decided}
use Rattle.abort_lazy.specs.Progress.{StopsWithCause, IsGoodLast, IsJudgedLast, IsDealtWith, IsReadyBy}
use Rattle.abort_lazy.proofs.Carrying.{seen_more, judged_more, good_at_more, answer_more, sources_more, not_seen, no_open_source, lone_unclaimed, lone_unshaken, judged_not_stale}

pub source_open_later : {p : Plan} {cap o at : ℕ} {w : OpWord} {start v u : View} (ys : List Item) {xs : List Item} → IsSourceOpen p cap o v u xs at w → IsSourceOpen p cap o start u (ys ++ xs) at w
source_open_later {p} {cap} {o} {at} {w} ys {xs} is = record {
  source = is.source;
  inside = Contains-append_right ys xs (loaded at w) is.inside;
  settled = is.settled;
  own = is.own;
  last = last_later ys is.last;
  open_own = is.open_own;
}

module _ (p : Plan) (i : ℕ) {start u : View} {xs : List Item} (goes : AddsAndFrees start u xs) where
  pub stop_source : {cap o at : ℕ} {w : OpWord} → InEvent p i o → IsSourceOpen p cap o start u xs at w → StopsWithCause p i start u xs (NotYet at w)
  stop_source {cap} {o} {at} {w} inside is = record {
    stopped = refl;
    cause = inl (record { reader = o; inside = inside; source = is.source; seen = is.inside; settled = is.settled });
    not_all = λ all. not_seen goes is.last is.open_own (all o inside);
    lone = λ alone seen. no_open_source goes (seen o inside) is;
  }

  pub stop_busy : {o : ℕ} {w : OpWord} → InEvent p i o → HasLast o xs w → Contains xs (loaded o w) → w.state ≡ Claimed → StopsWithCause p i start u xs (Busy o w)
  stop_busy {o} {w} inside last seen claimed = record {
    stopped = refl;
    cause = record { inside = inside; last = last; seen = seen; claimed = claimed; other = claimed_other goes.adds seen claimed };
    not_all = λ all. not_seen goes last (ap is_settled claimed) (all o inside);
    lone = λ alone sources. lone_unclaimed goes alone seen claimed;
  }

  pub stop_shaken : {o : ℕ} {w : OpWord} → InEvent p i o → HasLast o xs w → Contains xs (loaded o w) → is_settled w.state ≡ false → IsShaken p o xs → StopsWithCause p i start u xs (NotYet o w)
  stop_shaken {o} {w} inside last there open' shaken = record {
    stopped = refl;
    cause = inr (record { inside = inside; last = last; seen = there; shaken = shaken });
    not_all = λ all. not_seen goes last open' (all o inside);
    lone = λ alone seen. lone_unshaken goes alone shaken;
  }

-- what stops a call stops the one that it is a part of
pub stops_later : {p : Plan} {i : ℕ} {start v u : View} {ys xs : List Item} {r : TxnAnswer} → AddsAndFrees start v ys → StopsWithCause p i v u xs r → StopsWithCause p i start u (ys ++ xs) r
stops_later {p} {i} {start} {v} {u} {ys} {xs} {r} far stops = record {
  stopped = stops.stopped;
  cause = still r stops.cause;
  not_all = stops.not_all;
  lone = λ alone seen. stops.lone (lone_more far.adds alone) (λ o inside. sources_more far (seen o inside));
}
  where
    still : (r : TxnAnswer) → AnswersWithCause p i v u xs r → AnswersWithCause p i start u (ys ++ xs) r
    still (AllSettled committed) is = is
    still (NotYet s w) is =
        elim is [
          | inl source ↦ inl (record { reader = source.reader; inside = source.inside; source = source.source; seen = Contains-append_right ys xs (loaded s w) source.seen; settled = source.settled })
          | inr shaken ↦ inr (record { inside = shaken.inside; last = last_later ys shaken.last; seen = Contains-append_right ys xs (loaded s w) shaken.seen; shaken = later shaken.shaken })
        ]
      where
        later : IsShaken p s xs → IsShaken p s (ys ++ xs)
        later is = elim is [ inl own ↦ inl (disturbed_later ys own) | inr source ↦ inr (source.0, source.1, disturbed_later ys source.2) ]
    still (Busy s w) is = record { inside = is.inside; last = last_later ys is.last; seen = Contains-append_right ys xs (loaded s w) is.seen; claimed = is.claimed; other = λ same. is.other (same ∙ sym far.adds.tag) }

-- ---- a second verdict, after the operation was evaluated in this call

-- it was found stale: it or the source was disturbed
pub stale_again : {p : Plan} {cap o attempt j kept value : ℕ} {r : Outcome} {w f : OpWord} {a v u : View} {ys xs : List Item} → ComeFirst p o → OwnOn o ys → NoneOwn xs
    → (is : IsEvaluated p cap o a v ys f attempt r) → IsStaleAt p cap o v u xs w j kept value → IsShaken p o (ys ++ xs)
stale_again {p} {cap} {o} {attempt} {j} {kept} {value} {r} {w} {f} {a} {v} {u} {ys} {xs} first own none is stale =
    elim (cases_word is.word w) [
      | inr differs ↦
          inl
          (elim (stays_or ys xs is.last (λ t inside same. none t inside)) [
            | inl last ↦ absurd (differs (one_last last (last_later ys stale.last)))
            | inr there ↦ there
          ])
      | inl same ↦
          let kept_is : slice_index is.values j ≡ kept = stale.alike (slice_index is.values j) (subst (λ x. IsRecordSeen v o j x (slice_index is.values j)) same (is.records.each j stale.in_places)) in
          at (origin_at p o j) refl (subst (IsReadValue ys (origin_at p o j)) kept_is (is.read j stale.in_places)) stale.source
    ]
  where
    at : (q : Origin) → origin_at p o j ≡ q → IsReadValue ys q kept → IsSettledRead xs q value → IsShaken p o (ys ++ xs)
    at (Base b) same read settled = absurd (stale.differs (sym read ∙ settled))
    at (Written s) same read settled =
        let source : IsSourceOf p o s = record { place = j; in_places = stale.in_places; source_is = same } in
        let before : s < o = first s source in
        inr (
          s,
          source,
          changed s ys xs read.0 settled.0 read.1 settled.1 (λ one. stale.differs (sym read.2 ∙ ap (λ (x : OpWord). x.value) one ∙ settled.3))
              (λ t inside here. loads t here (Contains-append_cases ys xs t inside)),
        )
      where
        not_own : (t : Item) → t.op ≡ s → Contains ys t → (b : Bool) → t.own ≡ b → t.own ≡ false
        not_own t here found true is =
            let op : t.op ≡ o = own t found is in
            let less : s < o = first s (record { place = j; in_places = stale.in_places; source_is = same }) in
            absurd (omega arith)
        not_own t here found false is = is

        loads : (t : Item) → t.op ≡ s → Contains ys t ⊎ Contains xs t → t.own ≡ false
        loads t here inside = elim inside [ inr found ↦ none t found | inl found ↦ not_own t here found t.own refl ]

-- ---- while it is decided and settled

-- the last word of an operation stays so, or the operation was disturbed
last_more : {o : ℕ} {w : OpWord} (ys xs : List Item) → ((t : Item) → Contains xs t → t.op ≡ o → t.own ≡ false) → HasLast o ys w ⊎ IsDisturbed o ys → HasLast o (ys ++ xs) w ⊎ IsDisturbed o (ys ++ xs)
last_more ys xs loads is = elim is [ inl last ↦ stays_or ys xs last loads | inr there ↦ inr (disturbed_more xs there) ]

module _ {p : Plan} {v u : View} {xs : List Item} (goes : AddsAndFrees v u xs) where
  -- what was ready stays so, or was disturbed
  pub ready_more : {o : ℕ} (ys : List Item) → ((t : Item) → Contains xs t → t.op ≡ o → t.own ≡ false) → IsDealtWith p o v ys → IsDealtWith p o u (ys ++ xs)
  ready_more {o} ys loads is =
      elim is [
        | inl seen ↦ inl (seen_more goes seen)
        | inr rest ↦
            elim rest [
              | inr there ↦ inr (inr (disturbed_more xs there))
              | inl judged ↦
                  elim (stays_or ys xs judged.last loads) [
                    | inr there ↦ inr (inr there)
                    | inl last ↦ inr (inl (record { word = judged.word; last = last; judged = judged_more goes judged.judged; fails = judged.fails }))
                  ]
            ]
      ]

  -- what was judged good stays so
  pub good_more : {o : ℕ} {w : OpWord} (ys : List Item) → ((t : Item) → Contains xs t → t.op ≡ o → t.own ≡ false) → IsGoodLast p o v ys w → IsGoodLast p o u (ys ++ xs) w
  good_more ys loads is = record { last = last_more ys xs loads is.last; good = good_at_more goes is.good; answers = (is.answers.0, answer_more goes is.answers.1) }

  -- no decision yet: the operation that was ready was disturbed
  pub undecided_disturbed : {cap o : ℕ} {w : OpWord} (ys : List Item) → NoneOwn xs → (IsSettledSeen v o → ⊥) → IsDealtWith p o v ys
      → IsOwnUnready p cap o v u xs w ⊎ IsStaleWord p cap o v u xs w → IsDisturbed o (ys ++ xs)
  undecided_disturbed {cap} {o} {w} ys none unseen is cause =
      elim is [
        | inl seen ↦ absurd (unseen seen)
        | inr rest ↦
            elim rest [
              | inr there ↦ disturbed_more xs there
              | inl known ↦
                  elim cause [
                    | inl own ↦
                        elim own.cause [
                          | inr there ↦ disturbed_later ys there
                          | inl unrun ↦
                              found_other ys xs known.last own.last
                              (λ same. false≢true (sym unrun ∙ sym (ap (λ (x : OpWord). has_run x.state) same) ∙ known.judged.ran)) none
                        ]
                    | inr stale ↦
                        elim (cases_word known.word w) [
                          | inr differs ↦ found_other ys xs known.last stale.stale.last differs none
                          | inl same ↦ absurd (judged_not_stale goes (subst (IsJudged p v o) same known.judged) stale.stale)
                        ]
                  ]
            ]
      ]

  -- not settled: the operation that was ready is claimed, settled or was disturbed
  pub unsettled_disturbed : {cap o : ℕ} {w : OpWord} (ys : List Item) → (verdict p (event_of p o) ≡ true → outcome p (final p) o ≡ None → ⊥) → w.state ≢ Claimed → is_settled w.state ≡ false
      → IsDealtWith p o v ys → IsOwnUnsettled p cap o v u xs w → IsDisturbed o (ys ++ xs)
  unsettled_disturbed {cap} {o} {w} ys answers unclaimed open' is own =
      elim is [
        | inl seen ↦ absurd (not_seen goes own.last open' (seen_more goes seen))
        | inr rest ↦
            elim rest [
              | inr there ↦ disturbed_more xs there
              | inl known ↦
                  elim (cases_word known.word w) [
                    | inr differs ↦ found_other ys xs known.last own.last differs own.none
                    | inl same ↦
                        elim own.cause [
                          | inl there ↦ elim there [ inl claimed ↦ absurd (unclaimed claimed) | inr settled ↦ absurd (false≢true (sym open' ∙ settled)) ]
                          | inr more ↦
                              elim more [
                                | inl there ↦ disturbed_later ys there
                                | inr commits ↦
                                    elim commits.1 [
                                      | inl other ↦ absurd (other (executed known same commits.0))
                                      | inr stale ↦ absurd (judged_not_stale goes (subst (IsJudged p v o) same known.judged) stale.stale)
                                    ]
                              ]
                        ]
                  ]
            ]
      ]
    where
      executed : (known : IsJudgedLast p o v ys) → known.word ≡ w → verdict p (event_of p o) ≡ true → w.state ≡ Executed
      executed known same commits = sym (ap (λ (x : OpWord). x.state) same) ∙ of_state known.word.state refl known.judged.ran
        where
          of_state : (s : OpState) → known.word.state ≡ s → has_run s ≡ true → known.word.state ≡ Executed
          of_state Blocked is ran = absurd (false≢true ran)
          of_state Ready is ran = absurd (false≢true ran)
          of_state Claimed is ran = absurd (false≢true ran)
          of_state Executed is ran = is
          of_state Failed is ran = absurd (answers commits (known.fails is))
          of_state Spread is ran = absurd (false≢true ran)
          of_state Settled is ran = absurd (false≢true ran)
          of_state SettledAborted is ran = absurd (false≢true ran)

-- what is known of an operation before it is settled stays so
pub by_more : (p : Plan) (i : ℕ) (g : Grounds) (s : Say) {o : ℕ} {v u : View} {xs : List Item} → AddsAndFrees v u xs → (ys : List Item) → ((t : Item) → Contains xs t → t.op ≡ o → t.own ≡ false) → IsReadyBy p i g s o v ys
    → IsReadyBy p i g s o u (ys ++ xs)
by_more p i g Commit {xs = xs} goes ys loads is = last_more ys xs loads is
by_more p i g Abort goes ys loads is = ready_more goes ys loads is
by_more p i g Decided goes ys loads is = ready_more goes ys loads is
