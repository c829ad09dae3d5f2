use Rattle.std.proofs.Common.{◌≡◌, ℕ, ◌+◌, [], ◌∷◌, ◌++◌, length, true, refl, ap, sym, subst, ◌∙◌, arith, append-nil, append_assoc}
use Rattle.std.specs.Prelude.{All}
use Rattle.std.proofs.lemmas.List.Elements.{All-cons, All-nil}
use Rattle.morph_base.specs.declared.key.Layout.{Layout}
use Rattle.morph_base.specs.Flat.{Kept, contents}
use Rattle.rtrb.specs.Ring.{received}
use Rattle.batch_pipe.specs.declared.items.Sent.{Sent}
use Rattle.batch_pipe.specs.PlannedBatches.{IsReadyPlan}
use Rattle.batch_pipe.specs.PlanRuns.{Runs, RunsPlans, Desk, Manner, IsBehind, desk, manner}
use Rattle.batch_pipe.proofs.Desks.{runs_nothing, runs_both, plans_both, all_run, can_go_on}
use Rattle.batch_pipe.proofs.Ahead.{same_consumer, same_ring, numbered-one}
use Rattle.batch_pipe.proofs.Bounds.{runnable, state_after-within}
use Rattle.batch_pipe.proofs.runner.run_coming.Goals as goal

-- the next plan is ready for the layout and the greatest value that were asked for
ready_next : (layout : Layout) (high before : ℕ) (x : Sent) → IsReadyPlan x.layout x.greatest x.plan → IsBehind layout high before x → IsReadyPlan layout high x.plan
ready_next layout high before x ready next =
    subst (λ (n : ℕ). IsReadyPlan layout n x.plan) next.greatest_is (subst (λ (l : Layout). IsReadyPlan l x.greatest x.plan) next.layout_is ready)

pub loop-sent-init : goal.loop-sent-init
loop-sent-init g c =
    let m : Manner = manner c.args.host.now.pick c.args.host.now.workers in
    record {
      popped = [];
      run = runs_nothing g.T.Teller.takes m (desk c.args.runner.now c.args.teller.now);
      received_is = sym (append-nil (received c.args.runner.now.ring));
      able = c.requires.able;
      ring = ((refl, refl, refl, refl), refl);
      layout = refl;
      layout_is = c.layout-layout.ensures.layout ∙ ap (λ (k : Kept). k.layout) c.state.ensures;
    }

pub run_into-end-requires-clause-ready : goal.run_into-end-requires-clause-ready
run_into-end-requires-clause-ready g c κs within =
    let i = c.loop-sent.invariant in
    let x : Sent = c.in-Some.sent in
    let high = c.args.host.now.greatest in
    runnable c.layout-layout.result high c.loop-sent.runner.engine x.plan (i.layout ∙ sym i.layout_is)
    (ready_next c.layout-layout.result high c.loop-sent.number x c.in-Some.ensures.sound.ready c.in-Some.ensures.next) i.able.small

pub run_into-end-requires-clause-number : goal.run_into-end-requires-clause-number
run_into-end-requires-clause-number g c κs within =
    subst (g.T.Teller.can_take c.loop-sent.teller) (sym c.in-Some.ensures.next.number_is) c.loop-sent.invariant.able.can

pub run_into-end-requires-clause-last : goal.run_into-end-requires-clause-last
run_into-end-requires-clause-last g c κs within = c.in-Some.ensures.sound.few

pub returns-then-not-is_whole : goal.returns-then-not-is_whole
returns-then-not-is_whole g c =
    let m : Manner = manner c.args.host.now.pick c.args.host.now.workers in
    let i = c.loop-sent.invariant in
    let x : Sent = c.in-Some.sent in
    let n = c.run_into-end.new.runner in
    let old = c.args.runner.now.ring in
    let taken = c.take_coming.new.ring in
    record {
      runs = record {
        popped = i.popped ++ x ∷ [];
        plans = plans_both g.T.Teller.takes m i.popped (x ∷ []) c.run_into-end.result i.run c.run_into-end.ensures.runs;
        received_is = ap (λ r. received r) c.run_into-end.ensures.ring ∙ c.in-Some.ensures.taken ∙ ap (λ l. l ++ x ∷ []) i.received_is ∙ append_assoc (received old) i.popped (x ∷ []);
        later = i.popped ++ x ∷ [];
        whole = λ e. refl;
      };
      ring = same_consumer old taken n.ring (same_consumer old c.loop-sent.runner.ring taken i.ring c.in-Some.ensures.ring) (same_ring taken n.ring c.run_into-end.ensures.ring);
      layout = c.run_into-end.ensures.layout ∙ i.layout;
    }

pub loop-sent-preserved : goal.loop-sent-preserved
loop-sent-preserved g c =
    let m : Manner = manner c.args.host.now.pick c.args.host.now.workers in
    let takes = g.T.Teller.takes in
    let i = c.loop-sent.invariant in
    let x : Sent = c.in-Some.sent in
    let high = c.args.host.now.greatest in
    let n = c.run_into-end.new.runner in
    let old = c.args.runner.now.ring in
    let taken = c.take_coming.new.ring in
    let before : Desk _ = desk c.loop-sent.runner c.loop-sent.teller in
    let b : Desk _ = desk n c.run_into-end.new.teller in
    let Ready : Sent → Type 0 = λ y. IsReadyPlan c.layout-layout.result high y.plan in
    let next = c.in-Some.ensures.next in
    let ready : All Ready (x ∷ []) = All-cons Ready x [] (ready_next c.layout-layout.result high c.loop-sent.number x c.in-Some.ensures.sound.ready next) (All-nil Ready) in
    let one : Runs takes m before (x ∷ []) true b = all_run takes m (x ∷ []) (subst (λ e. RunsPlans takes m before (x ∷ []) e b) (c.if-not-is_whole.ensures.0 refl) c.run_into-end.ensures.runs) in
    let at : c.loop-sent.number + length (x ∷ []) + 1 ≡ x.number + 1 = omega (arith, next.number_is) in
    record {
      popped = i.popped ++ x ∷ [];
      run = runs_both takes m i.popped (x ∷ []) true i.run one;
      received_is = ap (λ r. received r) c.run_into-end.ensures.ring ∙ c.in-Some.ensures.taken ∙ ap (λ l. l ++ x ∷ []) i.received_is ∙ append_assoc (received old) i.popped (x ∷ []);
      able = record {
        small = rw one.state_is (state_after-within c.layout-layout.result high (contents c.loop-sent.runner.engine) (x ∷ []) ready i.able.small);
        few = c.in-Some.ensures.sound.few;
        can = subst (g.T.Teller.can_take c.run_into-end.new.teller) at
            (can_go_on takes m g.T.Teller.can_take g.met.T.Teller.goes_on (contents c.loop-sent.runner.engine) c.loop-sent.runner.last c.loop-sent.number (x ∷ []) one.rans c.loop-sent.teller c.run_into-end.new.teller one.run (numbered-one c.loop-sent.number x next.number_is) one.told i.able.can);
      };
      ring = same_consumer old taken n.ring (same_consumer old c.loop-sent.runner.ring taken i.ring c.in-Some.ensures.ring) (same_ring taken n.ring c.run_into-end.ensures.ring);
      layout = c.run_into-end.ensures.layout ∙ i.layout;
      layout_is = i.layout_is;
    }
