use Rattle.std.proofs.Common.{◌≡◌, ◌∙◌, ℕ, true, false, Result, Ok, Err, ap, refl, subst, sym}
use Rattle.std.specs.Prelude.{IfOk, IsTrue}
use Rattle.std.proofs.lemmas.Bool.{true≢false}
use Rattle.morph_base.specs.declared.strategy.Abort.{Abort}
use Rattle.morph_base.specs.declared.strategy.Abort.TheVariants.{Lazy, Eager}
use Rattle.run_text.specs.declared.choices.Planning.{Planning}
use Rattle.run_text.specs.declared.choices.Planning.TheVariants.{Fixed, Auto}
use Rattle.run_text.specs.Checks.{is_checked}
use Rattle.run_text.specs.Settings.{is_late, is_lazy}
use Rattle.std.proofs.lemmas.Result.{on_ok_weaker}
use Rattle.morph_base.specs.declared.plan.Plan.{Plan}
use Rattle.morph_base.specs.declared.strategy.Strategy.{Strategy}
use Rattle.morph_base.specs.declared.batch.Batch.{Batch}
use Rattle.morph_base.specs.Flat.{Kept, contents}
use Rattle.morph_base.specs.Outcomes.{fates}
use Rattle.morph_base.specs.Plans.{IsSettledOf, PlanKeysIn, transactions}
use Rattle.morph_base.specs.States.{State}
use Rattle.morph_base.specs.Transactions.{transactions_of, by_time}
use Rattle.morph_base.proofs.EndLaws.{state_at-fold}
use Rattle.morph_engine.specs.declared.engine.BatchEnd.{BatchEnd}
use Rattle.morph_engine.specs.Accounts.{IsAccount, account_of}
use Rattle.morph_engine.specs.Ends.{IsEnd}
use Rattle.morph_engine.specs.Fates.{settled_fates}
use Rattle.decision_model.specs.declared.counts.Last.{Last}
use Rattle.run_text.specs.declared.choices.Settings.{Settings}
use Rattle.morph_cli.specs.Batches.{IsEndOf}
use Rattle.morph_cli.specs.Strategies.{strategy_by}
use Rattle.morph_cli.specs.Tallies.{IsMadeOf, IsChecked}
use Rattle.morph_cli.proofs.run_batch.run_batch.Goals as goal

pub returns-clause-state : goal.returns-clause-state
returns-clause-state g c =
    let events = subst (λ (b : Batch). transactions c.in_ok-plan.plan ≡ by_time (transactions_of b)) c.replace-whole.ensures.value c.in_ok-plan.ensures.events in
    on_ok_weaker c.run_batch.result (λ state. state ∙ state_at-fold c.args.batch.now c.in_ok-plan.plan (contents c.args.engine.now) events) c.run_batch.ensures.state

-- what came of the run is what came of the batch
ends_are : {E : Type 0} (r : Result BatchEnd E) (s : Settings) (last : Last) (before : Kept) (batch : Batch) (p : Plan) (q : Strategy) →
    IfOk r (IsEnd p q s.workers (contents before)) → IfOk r (λ end. IsTrue (is_checked s.check) → IsChecked (account_of end)) →
    transactions p ≡ by_time (transactions_of batch) → IsMadeOf (contents before) (transactions_of batch) p → PlanKeysIn p before.layout → q ≡ strategy_by s.planning p last →
    IfOk r (IsEndOf s last before batch)
ends_are (Err e) s last before batch p q ended checked events made keys chosen = tt
ends_are (Ok end) s last before batch p q ended checked events made keys chosen = record {
  fates_are = ap (λ (x : Plan). settled_fates x end.settled) ended.plan ∙ ended.fates_are ∙ ap (fates (contents before)) events;
  made = subst (IsMadeOf (contents before) (transactions_of batch)) (sym ended.plan) made;
  keys = subst (λ (x : Plan). PlanKeysIn x before.layout) (sym ended.plan) keys;
  settled = subst (λ (x : Plan). IsSettledOf x end.settled) (sym ended.plan) ended.settled;
  strategy = ended.strategy_is ∙ chosen ∙ ap (λ (x : Plan). strategy_by s.planning x last) (sym ended.plan);
  account = subst (λ (x : Strategy). IsAccount x.explore x.abort s.workers (account_of end)) (sym ended.strategy_is) ended.account;
  checked = checked;
}

-- no journal is asked for
unasked : {E : Type 0} (r : Result BatchEnd E) (s : Settings) → is_checked s.check ≡ false → IfOk r (λ end. IsTrue (is_checked s.check) → IsChecked (account_of end))
unasked (Err e) s off = tt
unasked (Ok end) s off = λ on. absurd (true≢false (sym on ∙ off))

-- one was, and it was checked
asked : {E : Type 0} (r : Result BatchEnd E) (s : Settings) → IfOk r (λ end. IsChecked (account_of end)) → IfOk r (λ end. IsTrue (is_checked s.check) → IsChecked (account_of end))
asked (Err e) s checked = tt
asked (Ok end) s checked = λ on. checked

one_worker : {E : Type 0} (r : Result BatchEnd E) (p : Plan) (q : Strategy) (state : State) (workers : ℕ) → workers ≡ 1 → IfOk r (IsEnd p q 1 state) → IfOk r (IsEnd p q workers state)
one_worker r p q state workers one ended = subst (λ n. IfOk r (IsEnd p q n state)) (sym one) ended

-- the strategy that is given has lazy abort
lazy_given : (planning : Planning) (p : Plan) (last : Last) → is_lazy planning ≡ true → (strategy_by planning p last).abort ≡ Lazy
lazy_given (Fixed q) p last lazy = by_abort q.abort lazy
  where
    by_abort : (a : Abort) → is_late a ≡ true → a ≡ Lazy
    by_abort Lazy is = refl
    by_abort Eager is = absurd (true≢false (sym is))
lazy_given Auto p last lazy = absurd (true≢false (sym lazy))

pub run_checked-requires-clause-lazy : goal.run_checked-requires-clause-lazy
run_checked-requires-clause-lazy g c κs within =
    ap (λ (q : Strategy). q.abort) c.strategy_for-strategy.ensures ∙ lazy_given c.args.settings.now.planning c.in_ok-plan.plan c.args.last (c.requires.settings.unchecked (sym c.is_on.ensures ∙ c.if-is_on.true)).3

pub returns-then-is_on-clause-state : goal.returns-then-is_on-clause-state
returns-then-is_on-clause-state g c =
    let events = subst (λ (b : Batch). transactions c.in_ok-plan.plan ≡ by_time (transactions_of b)) c.replace-whole.ensures.value c.in_ok-plan.ensures.events in
    on_ok_weaker c.run_checked.result (λ state. state ∙ state_at-fold c.args.batch.now c.in_ok-plan.plan (contents c.args.engine.now) events) c.run_checked.ensures.state

pub returns-then-is_on-clause-ran : goal.returns-then-is_on-clause-ran
returns-then-is_on-clause-ran g c =
    let events = subst (λ (b : Batch). transactions c.in_ok-plan.plan ≡ by_time (transactions_of b)) c.replace-whole.ensures.value c.in_ok-plan.ensures.events in
    ends_are c.run_checked.result c.args.settings.now c.args.last c.args.engine.now c.args.batch.now c.in_ok-plan.plan c.strategy_for-strategy.result
    (one_worker c.run_checked.result c.in_ok-plan.plan c.strategy_for-strategy.result (contents c.args.engine.now) c.args.settings.now.workers (c.requires.settings.unchecked (sym c.is_on.ensures ∙ c.if-is_on.true)).2 c.run_checked.ensures.ended)
    (asked c.run_checked.result c.args.settings.now c.run_checked.ensures.checked)
    events (record { valid = c.in_ok-plan.ensures.valid; events = events; bases = c.in_ok-plan.ensures.bases })
    c.in_ok-plan.ensures.keys c.strategy_for-strategy.ensures

pub returns-clause-ran : goal.returns-clause-ran
returns-clause-ran g c =
    let events = subst (λ (b : Batch). transactions c.in_ok-plan.plan ≡ by_time (transactions_of b)) c.replace-whole.ensures.value c.in_ok-plan.ensures.events in
    ends_are c.run_batch.result c.args.settings.now c.args.last c.args.engine.now c.args.batch.now c.in_ok-plan.plan c.strategy_for-strategy.result
    c.run_batch.ensures.ended (unasked c.run_batch.result c.args.settings.now (sym c.is_on.ensures ∙ c.if-is_on.false))
    events (record { valid = c.in_ok-plan.ensures.valid; events = events; bases = c.in_ok-plan.ensures.bases })
    c.in_ok-plan.ensures.keys c.strategy_for-strategy.ensures
