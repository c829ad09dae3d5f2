-- How one operation is made ready for the decision.
use Rattle.std.proofs.Common.{◌≡◌, ◌≢◌, ◌⊎◌, ℕ, ◌+◌, Bool, true, false, List, [], ◌∷◌, ◌++◌, refl, sym, ap, ◌∙◌, subst, inl, inr, append_assoc, arith}
use Rattle.std.specs.Prelude.{Contains}
use Rattle.std.proofs.lemmas.Bool.{false≢true, cases_Bool}
use Rattle.std.proofs.lemmas.List.Elements.{Contains-append_right}
use Rattle.morph_base.specs.declared.plan.Plan.{Plan}
use Rattle.morph_base.specs.declared.word.OpState.{OpState}
use Rattle.morph_base.specs.declared.word.OpState.TheVariants.{Blocked, Ready, Claimed, Executed, Failed, Spread, Settled, SettledAborted}
use Rattle.morph_base.specs.declared.word.OpWord.{OpWord}
use Rattle.morph_base.specs.Plans.{InEvent}
use Rattle.morph_base.specs.Words.{is_settled, is_idle, is_evaluated}
use Rattle.interleaving_core.specs.Core.{blocked, ready, claimed, has_run}
use Rattle.op_words.specs.declared.answers.Outcome.{Outcome}
use Rattle.op_words.specs.declared.answers.Verdict.{Verdict}
use Rattle.op_words.specs.declared.answers.Verdict.TheVariants.{Good, Bad, Stale, Unready}
use Rattle.op_words.specs.declared.answers.Rolled.TheVariants.{Done as HasRolled, Fresh, Not as Unrolled}
use Rattle.op_words.specs.declared.answers.Redone.{Redone}
use Rattle.op_words.specs.declared.answers.Redone.TheVariants.{Good as GoodAgain, Bad as BadAgain, Open, Busy as BusyAgain}
use Rattle.op_words.specs.declared.trail.Item.{Item}
use Rattle.op_words.specs.declared.trail.View.{View}
use Rattle.op_words.specs.Trails.{loaded, left, HasLast, IsDisturbed, IsShaken, OwnOn, OwnOpen, ComeFirst}
use Rattle.op_words.specs.Views.{IsSettledSeen, AddsAndFrees}
use Rattle.op_words.specs.Calls.{IsSourceOpen, PeekDoes}
use Rattle.op_words.specs.Judging.{IsGood, IsGoodAt, IsBad, IsStaleSeen, VerdictDoes, VerdictAtDoes}
use Rattle.op_words.specs.Redoing.{RedoDoes, IsRedone, IsInterrupted}
use Rattle.op_words.specs.Retrying.{RollDoes}
use Rattle.op_words.proofs.Judging.{run_unsettled}
use Rattle.op_words.proofs.Making.{last_else, found_disturbed}
use Rattle.op_words.proofs.Trailing.{append_none, last_later, disturbed_later, disturbed_more}
use Rattle.op_words.proofs.Adding.{goes_then}
use Rattle.op_eval.specs.declared.answers.Evaluation.TheVariants.{Evaluated, Blocked as BlockedOn, Busy as BusyAt, Already}
use Rattle.op_eval.specs.Evaluations.{EvaluationDoes, SoFar}
use Rattle.op_eval.proofs.Following.{one_is_last, found_other, none_own, none_open, far_then}
use Rattle.abort_lazy.specs.declared.transaction.standing.Standing.{Standing}
use Rattle.abort_lazy.specs.declared.transaction.standing.Standing.TheVariants.{Good as StandsGood, Bad as StandsBad, Settled as IsSettledNow, Stopped}
use Rattle.abort_lazy.specs.declared.transaction.TxnAnswer.{TxnAnswer}
use Rattle.abort_lazy.specs.declared.transaction.TxnAnswer.TheVariants.{NotYet}
use Rattle.abort_lazy.specs.Progress.{so_far, IsStandingOf, StopsWithCause, ReadyDoes, IsIdleSoFar, IsStaleSoFar, IsSpreadSoFar, IsMadeSoFar, IsFoundSoFar}
use Rattle.abort_lazy.proofs.Carrying.{found_seen, already_other, already_last, already_seen, unrolled_other, fresh_other}
use Rattle.abort_lazy.proofs.Stopping.{source_open_later, stop_source, stop_busy, stop_shaken, stale_again}

pub cases_claimed : (s : OpState) → (s ≡ Claimed) ⊎ (s ≢ Claimed)
cases_claimed Blocked = inr (λ e. cc)
cases_claimed Ready = inr (λ e. cc)
cases_claimed Claimed = inl refl
cases_claimed Executed = inr (λ e. cc)
cases_claimed Failed = inr (λ e. cc)
cases_claimed Spread = inr (λ e. cc)
cases_claimed Settled = inr (λ e. cc)
cases_claimed SettledAborted = inr (λ e. cc)

abbrev pub can_stop : OpState → Bool
can_stop Blocked = false
can_stop Ready = false
can_stop Claimed = true
can_stop Executed = true
can_stop Failed = true
can_stop Spread = false
can_stop Settled = true
can_stop SettledAborted = true

executed_failed : Executed ≡ Failed → ⊥
executed_failed e = cc

pub shaken_more : {p : Plan} {o : ℕ} {xs : List Item} (ys : List Item) → IsShaken p o xs → IsShaken p o (xs ++ ys)
shaken_more ys is = elim is [ inl own ↦ inl (disturbed_more ys own) | inr source ↦ inr (source.0, source.1, disturbed_more ys source.2) ]

-- ready, or stopped
ready_settled : {p : Plan} {i o : ℕ} {start u : View} {xs : List Item} → SoFar o start u xs → IsSettledSeen u o → ReadyDoes p i o start u IsSettledNow
ready_settled {xs = xs} far seen = record { words = xs; far = far; tells = seen; dealt = λ goes_on. inl seen }

ready_stopped : {p : Plan} {i o : ℕ} {start u : View} {xs : List Item} {r : TxnAnswer} → SoFar o start u xs → StopsWithCause p i start u xs r → ReadyDoes p i o start u (Stopped r)
ready_stopped {xs = xs} far stops = record { words = xs; far = far; tells = stops; dealt = λ goes_on. absurd goes_on }

ready_judged_good : {p : Plan} {cap i o x : ℕ} {start v u : View} (ys : List Item) {xs : List Item} {w : OpWord} → SoFar o start u (ys ++ xs) → IsGood p cap o v u xs x → HasLast o xs w × IsGoodAt p u o w
    → ReadyDoes p i o start u (StandsGood w)
ready_judged_good {x = x} ys {xs} far is good = record {
  words = ys ++ xs;
  far = far;
  tells = record {
    last = inl (last_later ys good.0);
    good = good.1;
    answers = (x, record { sources = λ j below. (_, is.judged.sources j below); answer_is = is.answer });
  };
  dealt = λ goes_on. inr (inl (record { word = is.word; last = last_later ys is.last; judged = is.judged; fails = λ failed. absurd (executed_failed (sym is.state_is ∙ failed)) }));
}

ready_judged_bad : {p : Plan} {cap i o : ℕ} {start v u : View} (ys : List Item) {xs : List Item} → SoFar o start u (ys ++ xs) → IsBad p cap o v u xs → ReadyDoes p i o start u StandsBad
ready_judged_bad ys {xs} far is = record {
  words = ys ++ xs;
  far = far;
  tells = record { sources = λ j below. (_, is.judged.sources j below); answer_is = is.answer };
  dealt = λ goes_on. inr (inl (record { word = is.word; last = last_later ys is.last; judged = is.judged; fails = λ failed. is.answer }));
}

-- found with a word that stops it
pub ready_here : (p : Plan) (i o : ℕ) → InEvent p i o → {start u : View} {xs : List Item} {w : OpWord} {r : Standing} → SoFar o start u xs → HasLast o xs w → Contains xs (loaded o w)
    → (w.state ≡ Claimed) ⊎ IsShaken p o xs → IsStandingOf o w r → ReadyDoes p i o start u r
ready_here p i o inside {start} {u} {xs} {w} {r} far last seen cause stops =
    elim (cases_Bool (is_settled w.state)) [
      | inl settled ↦ subst (ReadyDoes p i o start u) (sym (stops.settled settled)) (ready_settled far (found_seen far.goes (loaded o w) seen refl settled))
      | inr open' ↦
          elim (cases_claimed w.state) [
            | inl claimed ↦ subst (ReadyDoes p i o start u) (sym (stops.claimed claimed)) (ready_stopped far (stop_busy p i far.goes inside last seen claimed))
            | inr free ↦
                subst (ReadyDoes p i o start u) (sym (stops.other open' free))
                (ready_stopped far (stop_shaken p i far.goes inside last seen open' (elim cause [ inl claimed ↦ absurd (free claimed) | inr shaken ↦ shaken ])))
          ]
    ]

module _ (p : Plan) (i o : ℕ) (inside : InEvent p i o) {start v u : View} {ys xs : List Item} (far : SoFar o start v ys) (goes : AddsAndFrees v u xs) (own : OwnOn o xs) (open_own : OwnOpen xs) where
  pub ready_stop : {w : OpWord} {r : Standing} → HasLast o xs w → Contains xs (loaded o w) → (w.state ≡ Claimed) ⊎ IsShaken p o (ys ++ xs) → IsStandingOf o w r → ReadyDoes p i o start u r
  ready_stop {w} last seen cause stops = ready_here p i o inside (far_then far goes own open_own) (last_later ys last) (Contains-append_right ys xs (loaded o w) seen) cause stops

  pub ready_source : {cap at : ℕ} {w : OpWord} → IsSourceOpen p cap o v u xs at w → ReadyDoes p i o start u (Stopped (NotYet at w))
  ready_source is = ready_stopped (far_then far goes own open_own) (stop_source p i (goes_then far.goes goes) inside (source_open_later {start = start} ys is))

module _ (p : Plan) (cap i o : ℕ) (inside : InEvent p i o) (first : ComeFirst p o) {start v u : View} {xs : List Item} where
  -- the verdict after an evaluation
  far_judged : {r : Verdict} → (does : VerdictDoes p cap o v u r) → IsMadeSoFar p cap o (so_far start v xs) → SoFar o start u (xs ++ does.words)
  far_judged does made = far_then made.far does.goes (none_own does.words does.none) (none_open does.words does.none)

  pub judged_good : {x : ℕ} {w : OpWord} → VerdictAtDoes p cap o v u w (Good x) → IsMadeSoFar p cap o (so_far start v xs) → ReadyDoes p i o start u (StandsGood w)
  judged_good {x} does made = ready_judged_good xs (far_judged does.answer made) does.answer.tells (does.good x refl)

  pub judged_bad : VerdictDoes p cap o v u Bad → IsMadeSoFar p cap o (so_far start v xs) → ReadyDoes p i o start u StandsBad
  judged_bad does made = ready_judged_bad xs (far_judged does made) does.tells

  pub judged_source : {at : ℕ} {w : OpWord} → at ≢ o → VerdictDoes p cap o v u (Unready at w) → IsMadeSoFar p cap o (so_far start v xs) → ReadyDoes p i o start u (Stopped (NotYet at w))
  judged_source {at} {w} other does made =
      elim does.tells [ inl own ↦ absurd (other own.0) | inr source ↦ ready_source p i o inside made.far does.goes (none_own does.words does.none) (none_open does.words does.none) source.1 ]

  pub judged_own : {at : ℕ} {w : OpWord} {r : Standing} → at ≡ o → VerdictDoes p cap o v u (Unready at w) → IsMadeSoFar p cap o (so_far start v xs) → IsStandingOf o w r → ReadyDoes p i o start u r
  judged_own {at} {w} {r} same does made stops =
      elim does.tells [
        | inr source ↦ absurd (source.0 same)
        | inl own ↦
            ready_stop p i o inside made.far does.goes (none_own does.words does.none) (none_open does.words does.none) own.1.last own.1.seen
            (inr (inl (elim own.1.cause [
              | inr there ↦ disturbed_later xs there
              | inl unrun ↦
                  found_other xs does.words (known made) own.1.last
                  (λ e. false≢true (sym unrun ∙ sym (ap (λ (x : OpWord). has_run x.state) e) ∙ made.evaluated.ran)) does.none
            ])))
            stops
      ]
    where
      known : (made : IsMadeSoFar p cap o (so_far start v xs)) → HasLast o xs made.evaluated.word
      known made = subst (λ zs. HasLast o zs made.evaluated.word) (sym made.parts) (last_later made.front made.evaluated.last)

  pub judged_stale : {j kept value : ℕ} {w : OpWord} {m : View} {r : Standing} → VerdictDoes p cap o v m (Stale j kept value) → PeekDoes p cap o m u w → IsMadeSoFar p cap o (so_far start v xs) → IsStandingOf o w r
      → ReadyDoes p i o start u r
  judged_stale {j} {kept} {value} {w} {m} {r} does peek made stops =
      let shaken : IsShaken p o (made.back ++ does.words) = stale_again first (back_own made) does.none made.evaluated does.tells.stale in
      let whole : xs ++ does.words ≡ made.front ++ (made.back ++ does.words) = ap (λ zs. zs ++ does.words) made.parts ∙ append_assoc made.front made.back does.words in
      let later : IsShaken p o (xs ++ does.words) = subst (IsShaken p o) (sym whole) (shaken_later made.front shaken) in
      ready_stop p i o inside (far_then made.far does.goes (none_own does.words does.none) (none_open does.words does.none)) peek.goes (none_own peek.words peek.none) (none_open peek.words peek.none) peek.last peek.seen (inr (shaken_more peek.words later)) stops
    where
      back_own : (made : IsMadeSoFar p cap o (so_far start v xs)) → OwnOn o made.back
      back_own made t inside is = made.far.own t (subst (λ zs. Contains zs t) (sym made.parts) (Contains-append_right made.front made.back t inside)) is

      shaken_later : (zs : List Item) {qs : List Item} → IsShaken p o qs → IsShaken p o (zs ++ qs)
      shaken_later zs is = elim is [ inl own ↦ inl (disturbed_later zs own) | inr source ↦ inr (source.0, source.1, disturbed_later zs source.2) ]

  -- an evaluation of an operation that was found idle
  pub made_so_far : {attempt : ℕ} {r : Outcome} → EvaluationDoes p cap o v u (Evaluated attempt r) → IsIdleSoFar o (so_far start v xs) → (ys : List Item) × IsMadeSoFar p cap o (so_far start u ys)
  made_so_far {attempt} {r} does idle = (
    xs ++ does.words,
    record {
      far = far_then idle.far does.goes does.own does.open_own;
      before = v;
      front = xs;
      back = does.words;
      parts = refl;
      goes = does.goes;
      first = does.first;
      attempt = attempt;
      value = r;
      evaluated = does.tells;
    },
  )

  pub run_blocked : {source : ℕ} {w : OpWord} → EvaluationDoes p cap o v u (BlockedOn source w) → IsIdleSoFar o (so_far start v xs) → ReadyDoes p i o start u (Stopped (NotYet source w))
  run_blocked does idle = ready_source p i o inside idle.far does.goes does.own does.open_own does.tells.source

  pub run_busy : {w : OpWord} {r : Standing} → EvaluationDoes p cap o v u (BusyAt w) → IsIdleSoFar o (so_far start v xs) → IsStandingOf o w r → ReadyDoes p i o start u r
  run_busy does idle stops =
      ready_stop p i o inside idle.far does.goes does.own does.open_own does.tells.last does.tells.seen
      (elim does.tells.cause [ inl claimed ↦ inl claimed | inr there ↦ inr (inl (disturbed_later xs there)) ]) stops

  pub run_already : {w : OpWord} {r : Standing} → EvaluationDoes p cap o v u (Already w) → IsIdleSoFar o (so_far start v xs) → IsStandingOf o w r → ReadyDoes p i o start u r
  run_already {w} does idle stops =
      ready_stop p i o inside idle.far does.goes does.own does.open_own (already_last p cap o does.tells) (already_seen p cap o does.tells) (inr (inl (already_other p cap o xs idle.last idle.idle does.tells))) stops

  -- a rollback of an operation that was found spread
  pub idle_so_far : {j : ℕ} → RollDoes p cap o v u j HasRolled → IsSpreadSoFar cap o (so_far start v xs) → (ys : List Item) × IsIdleSoFar o (so_far start u ys)
  idle_so_far {j} does old = (xs ++ does.words, record { far = far_then old.far does.goes does.own does.open_own; word = blocked (does.tells.first.attempt + 1); last = last_later xs does.tells.last; idle = refl })

  pub spread_source : {j at : ℕ} {w : OpWord} → at ≢ o → RollDoes p cap o v u j (Unrolled at w) → IsSpreadSoFar cap o (so_far start v xs) → ReadyDoes p i o start u (Stopped (NotYet at w))
  spread_source {j} {at} {w} other does old =
      elim does.tells [ inl own ↦ absurd (other own.0) | inr source ↦ ready_source p i o inside old.far does.goes does.own does.open_own source.1.source_open ]

  pub spread_own : {j at : ℕ} {w : OpWord} {r : Standing} → at ≡ o → RollDoes p cap o v u j (Unrolled at w) → IsSpreadSoFar cap o (so_far start v xs) → IsStandingOf o w r → ReadyDoes p i o start u r
  spread_own {j} {at} {w} {r} same does old stops =
      elim does.tells [
        | inr source ↦ absurd (source.0 same)
        | inl own ↦
            ready_stop p i o inside old.far does.goes does.own does.open_own own.1.last own.1.seen
            (inr (inl (unrolled_other p cap o xs old.last (ap is_evaluated old.spread) old.below own.1))) stops
      ]

  pub spread_fresh : {j x : ℕ} {w : OpWord} {m : View} {r : Standing} → RollDoes p cap o v m j (Fresh x) → PeekDoes p cap o m u w → IsSpreadSoFar cap o (so_far start v xs) → IsStandingOf o w r → ReadyDoes p i o start u r
  spread_fresh {j} {x} {w} {m} {r} does peek old stops =
      ready_stop p i o inside (far_then old.far does.goes does.own does.open_own) peek.goes (none_own peek.words peek.none) (none_open peek.words peek.none) peek.last peek.seen
      (inr (inl (disturbed_more peek.words (fresh_other p cap o xs old.last old.spread does.tells)))) stops

-- an operation that was judged stale was taken back and evaluated again
module _ (p : Plan) (i o j : ℕ) (inside : InEvent p i o) {start v u : View} {xs : List Item} {w : OpWord} (old : IsStaleSoFar o w (so_far start v xs)) where
  far_redone : {r : Redone} → (does : RedoDoes p o w j v u r) → SoFar o start u (xs ++ does.words)
  far_redone does = far_then old.far does.goes does.own does.open_own

  redone_last : {ys : List Item} {z : OpWord} → IsRedone p o w j v u ys z → HasLast o (xs ++ ys) z
  redone_last {ys} {z} is =
      let steps : List Item = left o (blocked (w.attempt + 1)) ∷ left o (ready (w.attempt + 1)) ∷ left o (claimed (w.attempt + 1) v.tag) ∷ [] in
      last_later xs (subst (λ zs. HasLast o zs z) (sym is.words_are) (last_later is.row (last_later steps (one_is_last (left o z)))))

  pub again_good : {z : OpWord} → RedoDoes p o w j v u (GoodAgain z) → ReadyDoes p i o start u (StandsGood z)
  again_good {z} does =
      let is = does.tells in
      let last = redone_last is.redone in
      record {
        words = xs ++ does.words;
        far = far_redone does;
        tells = record { last = inl last; good = is.good; answers = (z.value, is.answer) };
        dealt = λ goes_on. inr (inl (record { word = z; last = last; judged = is.redone.judged; fails = λ failed. absurd (executed_failed (sym is.good.executed ∙ failed)) }));
      }

  pub again_bad : {z : OpWord} → RedoDoes p o w j v u (BadAgain z) → ReadyDoes p i o start u StandsBad
  again_bad {z} does =
      let is = does.tells in
      record {
        words = xs ++ does.words;
        far = far_redone does;
        tells = is.answer;
        dealt = λ goes_on. inr (inl (record { word = z; last = redone_last is.redone; judged = is.redone.judged; fails = λ failed. is.answer.answer_is }));
      }

  -- its own word is still the one that was judged
  pub again_source : {cap at : ℕ} {z : OpWord} → IsStaleSeen p cap v o w j → RedoDoes p o w j v u (Open at z) → ReadyDoes p i o start u (Stopped (NotYet at z))
  again_source {cap} {at} {z} stale does =
      let is = does.tells in
      let far = far_redone does in
      let open' : IsSourceOpen p cap o start u (xs ++ does.words) at z = record {
        source = is.source;
        inside = Contains-append_right xs does.words (loaded at z) is.inside;
        settled = is.settled;
        own = w;
        last = last_else o xs does.words w old.last is.elsewhere;
        open_own = run_unsettled w.state stale.ran;
      } in
      ready_stopped far (stop_source p i far.goes inside open')

  -- the word that this hand knew last, where another one was found
  known_last : {ys : List Item} {z : OpWord} → (is : IsInterrupted p o w j v u ys z) → HasLast o (xs ++ (is.row ++ is.own)) is.known
  known_last {ys} {z} is =
      elim is.way [
        | inl none ↦
            subst (λ y. HasLast o (xs ++ (is.row ++ is.own)) y) (sym none.2)
            (subst (λ zs. HasLast o (xs ++ zs) w) (sym (ap (λ (zs : List Item). is.row ++ zs) none.0 ∙ append_none is.row)) (last_else o xs is.row w old.last is.elsewhere))
        | inr more ↦ last_later xs (last_later is.row (elim more [ inl back ↦ known_is (blocked (w.attempt + 1)) [] back.0 back.2 | inr made ↦ known_is (ready (w.attempt + 1)) (left o (blocked (w.attempt + 1)) ∷ []) made.0 made.2 ]))
      ]
    where
      known_is : (y : OpWord) (front : List Item) → is.own ≡ front ++ left o y ∷ [] → is.known ≡ y → HasLast o is.own is.known
      known_is y front own known = subst (λ k. HasLast o is.own k) (sym known) (subst (λ zs. HasLast o zs y) (sym own) (last_later front (one_is_last (left o y))))

  pub again_busy : {z : OpWord} {r : Standing} → RedoDoes p o w j v u (BusyAgain z) → IsStandingOf o z r → ReadyDoes p i o start u r
  again_busy {z} {r} does stops =
      let is = does.tells in
      let tail : List Item = loaded o z ∷ [] in
      let there : Contains (xs ++ does.words) (loaded o z) =
      Contains-append_right xs does.words (loaded o z)
      (subst (λ zs. Contains zs (loaded o z)) (sym is.words_are) (Contains-append_right is.row (is.own ++ tail) (loaded o z) (Contains-append_right is.own tail (loaded o z) (0, omega arith, refl)))) in
      let last : HasLast o (xs ++ does.words) z = last_later xs (subst (λ zs. HasLast o zs z) (sym is.words_are) (last_later is.row (last_later is.own (one_is_last (loaded o z))))) in
      let whole : xs ++ does.words ≡ (xs ++ (is.row ++ is.own)) ++ tail =
      ap (λ (zs : List Item). xs ++ zs) (is.words_are ∙ sym (append_assoc is.row is.own tail)) ∙ sym (append_assoc xs (is.row ++ is.own) tail) in
      let shaken : IsDisturbed o (xs ++ does.words) =
      subst (IsDisturbed o) (sym whole) (found_disturbed o (xs ++ (is.row ++ is.own)) is.known z (known_last is) is.differs) in
      ready_here p i o inside (far_redone does) last there (inr (inl shaken)) stops

module _ (p : Plan) (cap i o : ℕ) (inside : InEvent p i o) {start v : View} {xs : List Item} where
  -- what was found not run, at its last word
  pub found_idle : {w : OpWord} → IsFoundSoFar p cap o (so_far start v xs) w → is_idle w.state ≡ true → IsIdleSoFar o (so_far start v xs)
  found_idle {w} found idle = record { far = found.far; word = w; last = found.last; idle = idle }

  pub found_spread : {w : OpWord} → IsFoundSoFar p cap o (so_far start v xs) w → w.state ≡ Spread → IsSpreadSoFar cap o (so_far start v xs)
  found_spread {w} found spread = record { far = found.far; word = w; last = found.last; spread = spread; below = found.spread spread }

  found_run : {w : OpWord} {s : OpState} → w.state ≡ s → has_run s ≡ true → IsFoundSoFar p cap o (so_far start v xs) w → IsDisturbed o xs
  found_run is ran found = elim found.cause [ inr there ↦ there | inl unrun ↦ absurd (false≢true (sym unrun ∙ ap has_run is ∙ ran)) ]

  found_settled : {w : OpWord} {r : Standing} → is_settled w.state ≡ true → IsFoundSoFar p cap o (so_far start v xs) w → IsStandingOf o w r → ReadyDoes p i o start v r
  found_settled {w} {r} settled found stops = subst (ReadyDoes p i o start v) (sym (stops.settled settled)) (ready_settled found.far (found_seen found.far.goes (loaded o w) found.seen refl settled))

  pub found_stop : {w : OpWord} {r : Standing} (s : OpState) → w.state ≡ s → can_stop s ≡ true → IsFoundSoFar p cap o (so_far start v xs) w → IsStandingOf o w r → ReadyDoes p i o start v r
  found_stop {w} {r} Blocked is can found stops = absurd (false≢true can)
  found_stop {w} {r} Ready is can found stops = absurd (false≢true can)
  found_stop {w} {r} Claimed is can found stops = ready_here p i o inside found.far found.last found.seen (inl is) stops
  found_stop {w} {r} Executed is can found stops = ready_here p i o inside found.far found.last found.seen (inr (inl (found_run is refl found))) stops
  found_stop {w} {r} Failed is can found stops = ready_here p i o inside found.far found.last found.seen (inr (inl (found_run is refl found))) stops
  found_stop {w} {r} Spread is can found stops = absurd (false≢true can)
  found_stop {w} {r} Settled is can found stops = found_settled (ap is_settled is) found stops
  found_stop {w} {r} SettledAborted is can found stops = found_settled (ap is_settled is) found stops

-- the first verdict on an operation in the call
module _ (p : Plan) (cap i o : ℕ) (inside : InEvent p i o) {v u : View} where
  pub first_far : {r : Verdict} → (does : VerdictDoes p cap o v u r) → SoFar o v u does.words
  first_far does = record { goes = does.goes; own = none_own does.words does.none; open_own = none_open does.words does.none }

  pub first_good : {x : ℕ} {w : OpWord} → VerdictAtDoes p cap o v u w (Good x) → ReadyDoes p i o v u (StandsGood w)
  first_good {x} does = ready_judged_good [] (first_far does.answer) does.answer.tells (does.good x refl)

  pub first_bad : VerdictDoes p cap o v u Bad → ReadyDoes p i o v u StandsBad
  first_bad does = ready_judged_bad [] (first_far does) does.tells

  pub first_stale : {j kept value : ℕ} {w : OpWord} → VerdictAtDoes p cap o v u w (Stale j kept value) → (xs : List Item) × IsStaleSoFar o w (so_far v u xs)
  first_stale {j} {kept} {value} does = (does.answer.words, record { far = first_far does.answer; last = (does.stale j kept value refl).0 })

  pub first_own : {at : ℕ} {w : OpWord} → at ≡ o → VerdictDoes p cap o v u (Unready at w) → (xs : List Item) × IsFoundSoFar p cap o (so_far v u xs) w
  first_own {at} {w} same does =
      elim does.tells [
        | inr source ↦ absurd (source.0 same)
        | inl own ↦ (does.words, record { far = first_far does; last = own.1.last; seen = own.1.seen; cause = own.1.cause; spread = own.1.spread })
      ]

  pub first_source : {at : ℕ} {w : OpWord} → at ≢ o → VerdictDoes p cap o v u (Unready at w) → ReadyDoes p i o v u (Stopped (NotYet at w))
  first_source {at} {w} other does =
      elim does.tells [ inl own ↦ absurd (other own.0) | inr source ↦ ready_stopped (first_far does) (stop_source p i does.goes inside source.1) ]
