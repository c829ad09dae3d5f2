use Rattle.std.proofs.Common.{◌≡◌, ℕ, ◌+◌, ◌≤◌, ◌++◌, [], ◌∷◌, List, length, Option, None, Some, true, refl, ap, sym, subst, ◌∙◌, arith, append-nil, append_assoc}
use Rattle.std.specs.Prelude.{All, IfSome}
use Rattle.std.proofs.lemmas.Bool.{true≢false}
use Rattle.std.proofs.lemmas.List.{length-append}
use Rattle.std.proofs.lemmas.List.Elements.{All-append, All-weaker}
use Rattle.morph_base.specs.declared.key.Layout.{Layout}
use Rattle.morph_base.specs.Flat.{contents}
use Rattle.morph_base.specs.States.{IsUpTo}
use Rattle.event_reader.specs.Limits.{input_bytes}
use Rattle.rtrb.specs.Ring.{known_items, received}
use Rattle.batch_pipe.specs.declared.items.Sent.{Sent}
use Rattle.batch_pipe.specs.PlannedBatches.{IsReadyPlan, AreNumbered}
use Rattle.batch_pipe.specs.PlanRuns.{IsRunnable, Runs, RunsPlans, Desk, Manner, desk, manner, one_or_none}
use Rattle.batch_pipe.proofs.Desks.{runs_both, plans_both, all_run, runs_whole, can_go_on, all_middle, empty_is}
use Rattle.batch_pipe.proofs.Ahead.{same_consumer, same_ring, numbered-front, numbered-next, numbered-first}
use Rattle.batch_pipe.proofs.Bounds.{runnable, state_after-within}
use Rattle.batch_pipe.proofs.Rounds.{all_front, some_is, some_then}
use Rattle.batch_pipe.proofs.runner.run_waiting.Goals as goal

-- the numbers of what waited, with one in the middle
numbers_are : (n : ℕ) (first known popped : List Sent) (x : Sent) (rest : List Sent) → known ≡ popped ++ x ∷ rest → AreNumbered n (first ++ known) → AreNumbered n ((first ++ popped) ++ x ∷ rest)
numbers_are n first known popped x rest is numbered = subst (AreNumbered n) (ap (λ l. first ++ l) is ∙ sym (append_assoc first popped (x ∷ rest))) numbered

-- the first plan has no number above the last possible one
last_first : (n : ℕ) (first : Option Sent) (known : List Sent) → IfSome first (λ x. x.number ≡ n + 1) → n + length (one_or_none first) + length known ≤ input_bytes + 1 → IfSome first (λ x. x.number ≤ input_bytes + 1)
last_first n None known is few = tt
last_first n (Some x) known is few = omega (arith, is, few)

pub run_first-end-requires-clause-ready : goal.run_first-end-requires-clause-ready
run_first-end-requires-clause-ready g c κs within =
    let w = c.requires.waiting in
    let engine = c.args.runner.now.engine in
    some_is c.args.first (λ (x : Sent). IsRunnable engine x.plan)
    (All-weaker (λ (x : Sent). IsReadyPlan engine.layout c.args.host.now.greatest x.plan) (λ (x : Sent). IsRunnable engine x.plan) (λ x ready. runnable engine.layout c.args.host.now.greatest engine x.plan refl ready w.small)
    (one_or_none c.args.first) w.first_ready)

pub run_first-end-requires-clause-number : goal.run_first-end-requires-clause-number
run_first-end-requires-clause-number g c κs within =
    let w = c.requires.waiting in
    some_then c.args.first (λ x. x.number ≡ w.before + 1) (λ x. g.T.Teller.can_take c.args.teller.now x.number)
    (λ x is. subst (g.T.Teller.can_take c.args.teller.now) (sym is) w.can) (numbered-first w.before c.args.first (known_items c.args.runner.now.ring) w.numbered)

pub run_first-end-requires-clause-last : goal.run_first-end-requires-clause-last
run_first-end-requires-clause-last g c κs within =
    let w = c.requires.waiting in
    last_first w.before c.args.first (known_items c.args.runner.now.ring) (numbered-first w.before c.args.first (known_items c.args.runner.now.ring) w.numbered) (omega (arith, w.upto_is, w.few))

pub returns-then-not-is_whole : goal.returns-then-not-is_whole
returns-then-not-is_whole g c =
    let first : List Sent = one_or_none c.args.first in
    record {
      runs = record {
        runs = record {
          popped = [];
          plans = subst (λ (l : List Sent). RunsPlans g.T.Teller.takes (manner c.args.host.now.pick c.args.host.now.workers) (desk c.args.runner.now c.args.teller.now) l c.run_first-end.result
              (desk c.run_first-end.new.runner c.run_first-end.new.teller)) (sym (append-nil first)) c.run_first-end.ensures.runs;
          received_is = ap (λ r. received r) c.run_first-end.ensures.ring ∙ sym (append-nil (received c.args.runner.now.ring));
          later = [];
          whole = λ e. absurd (true≢false (sym (c.if-not-is_whole.ensures.1 e)));
        };
        ring = same_ring c.args.runner.now.ring c.run_first-end.new.runner.ring c.run_first-end.ensures.ring;
        layout = c.run_first-end.ensures.layout;
      };
      goes_on = λ e. absurd (true≢false (sym (c.if-not-is_whole.ensures.1 e)));
    }

pub loop-init : goal.loop-init
loop-init g c =
    let m : Manner = manner c.args.host.now.pick c.args.host.now.workers in
    let takes = g.T.Teller.takes in
    let first : List Sent = one_or_none c.args.first in
    let a : Desk _ = desk c.args.runner.now c.args.teller.now in
    let b : Desk _ = desk c.run_first-end.new.runner c.run_first-end.new.teller in
    record {
      popped = [];
      run = subst (λ (l : List Sent). Runs takes m a l true b) (sym (append-nil first)) (all_run takes m first (subst (λ e. RunsPlans takes m a first e b) (c.if-not-is_whole.ensures.0 refl) c.run_first-end.ensures.runs));
      known_is = ap (λ r. known_items r) (sym c.run_first-end.ensures.ring);
      received_is = ap (λ r. received r) c.run_first-end.ensures.ring ∙ sym (append-nil (received c.args.runner.now.ring));
      many = refl;
      ring = same_ring c.args.runner.now.ring c.run_first-end.new.runner.ring c.run_first-end.ensures.ring;
      layout = c.run_first-end.ensures.layout;
    }

pub pop_known-sent-requires : goal.pop_known-sent-requires
pop_known-sent-requires g c =
    let i = c.loop.invariant in
    let whole = ap length i.known_is in
    let both = length-append i.popped (known_items c.loop.runner.ring) in
    let slots = c.cached_slots-end.ensures in
    let same = ap (λ r. length (known_items r)) c.run_first-end.ensures.ring in
    omega (arith, whole, both, i.many, slots, same, c.loop-test.true)

pub run_into-end-requires-clause-ready : goal.run_into-end-requires-clause-ready
run_into-end-requires-clause-ready g c κs within =
    let i = c.loop.invariant in
    let w = c.requires.waiting in
    let old = c.args.runner.now in
    let layout : Layout = old.engine.layout in
    let Ready : Sent → Type 0 = λ x. IsReadyPlan layout c.args.host.now.greatest x.plan in
    let front = All-append Ready (one_or_none c.args.first) i.popped w.first_ready (all_front Ready i.popped (known_items c.loop.runner.ring) (subst (All Ready) i.known_is w.ready)) in
    let small : IsUpTo c.args.host.now.greatest (contents c.loop.runner.engine) = rw i.run.state_is (state_after-within layout c.args.host.now.greatest (contents old.engine) (one_or_none c.args.first ++ i.popped) front w.small) in
    runnable layout c.args.host.now.greatest c.loop.runner.engine c.pop_known-sent.result.plan i.layout
    (all_middle Ready (known_items old.ring) i.popped (known_items c.pop_known-sent.new.self) c.pop_known-sent.result
    w.ready (i.known_is ∙ ap (λ l. i.popped ++ l) c.pop_known-sent.ensures.received.1))
    small

pub run_into-end-requires-clause-number : goal.run_into-end-requires-clause-number
run_into-end-requires-clause-number g c κs within =
    let i = c.loop.invariant in
    let w = c.requires.waiting in
    let first : List Sent = one_or_none c.args.first in
    let x : Sent = c.pop_known-sent.result in
    let rest : List Sent = known_items c.pop_known-sent.new.self in
    let numbers = numbers_are w.before first (known_items c.args.runner.now.ring) i.popped x rest (i.known_is ∙ ap (λ l. i.popped ++ l) c.pop_known-sent.ensures.received.1) w.numbered in
    subst (g.T.Teller.can_take c.loop.teller) (sym (numbered-next w.before (first ++ i.popped) x rest numbers))
    (can_go_on g.T.Teller.takes (manner c.args.host.now.pick c.args.host.now.workers) g.T.Teller.can_take g.met.T.Teller.goes_on (contents c.args.runner.now.engine) c.args.runner.now.last w.before (first ++ i.popped) i.run.rans c.args.teller.now c.loop.teller i.run.run
    (numbered-front w.before (first ++ i.popped) (x ∷ rest) numbers) i.run.told w.can)

pub run_into-end-requires-clause-last : goal.run_into-end-requires-clause-last
run_into-end-requires-clause-last g c κs within =
    let i = c.loop.invariant in
    let w = c.requires.waiting in
    let first : List Sent = one_or_none c.args.first in
    let x : Sent = c.pop_known-sent.result in
    let rest : List Sent = known_items c.pop_known-sent.new.self in
    let known_is = i.known_is ∙ ap (λ l. i.popped ++ l) c.pop_known-sent.ensures.received.1 in
    let number = numbered-next w.before (first ++ i.popped) x rest (numbers_are w.before first (known_items c.args.runner.now.ring) i.popped x rest known_is w.numbered) in
    let whole = ap length known_is in
    let l0 = length-append i.popped (x ∷ rest) in
    let l1 = length-append first i.popped in
    omega (arith, number, whole, l0, l1, w.upto_is, w.few)

pub returns-then-not-is_whole-2 : goal.returns-then-not-is_whole-2
returns-then-not-is_whole-2 g c =
    let m : Manner = manner c.args.host.now.pick c.args.host.now.workers in
    let i = c.loop.invariant in
    let pop = c.pop_known-sent.ensures in
    let x : Sent = c.pop_known-sent.result in
    let first : List Sent = one_or_none c.args.first in
    let n = c.run_into-end.new.runner in
    let popped_ring = c.pop_known-sent.new.self in
    record {
      runs = record {
        runs = record {
          popped = i.popped ++ x ∷ [];
          plans = subst (λ (l : List Sent). RunsPlans g.T.Teller.takes m (desk c.args.runner.now c.args.teller.now) l c.run_into-end.result (desk n c.run_into-end.new.teller)) (append_assoc first i.popped (x ∷ []))
              (plans_both g.T.Teller.takes m (first ++ i.popped) (x ∷ []) c.run_into-end.result i.run c.run_into-end.ensures.runs);
          received_is = ap (λ r. received r) c.run_into-end.ensures.ring ∙ pop.received.0 ∙ ap (λ l. l ++ x ∷ []) i.received_is ∙ append_assoc (received c.args.runner.now.ring) i.popped (x ∷ []);
          later = [];
          whole = λ e. absurd (true≢false (sym (c.if-not-is_whole-2.ensures.1 e)));
        };
        ring = same_consumer c.args.runner.now.ring popped_ring n.ring (same_consumer c.args.runner.now.ring c.loop.runner.ring popped_ring i.ring pop.ring) (same_ring popped_ring n.ring c.run_into-end.ensures.ring);
        layout = c.run_into-end.ensures.layout ∙ i.layout;
      };
      goes_on = λ e. absurd (true≢false (sym (c.if-not-is_whole-2.ensures.1 e)));
    }

pub loop-preserved : goal.loop-preserved
loop-preserved g c =
    let m : Manner = manner c.args.host.now.pick c.args.host.now.workers in
    let takes = g.T.Teller.takes in
    let i = c.loop.invariant in
    let pop = c.pop_known-sent.ensures in
    let x : Sent = c.pop_known-sent.result in
    let first : List Sent = one_or_none c.args.first in
    let a : Desk _ = desk c.args.runner.now c.args.teller.now in
    let n = c.run_into-end.new.runner in
    let before : Desk _ = desk c.loop.runner c.loop.teller in
    let b : Desk _ = desk n c.run_into-end.new.teller in
    let popped_ring = c.pop_known-sent.new.self in
    let known' = ap (λ r. known_items r) (sym c.run_into-end.ensures.ring) in
    record {
      popped = i.popped ++ x ∷ [];
      run = subst (λ (l : List Sent). Runs takes m a l true b) (append_assoc first i.popped (x ∷ []))
          (runs_both takes m (first ++ i.popped) (x ∷ []) true i.run (all_run takes m (x ∷ []) (subst (λ e. RunsPlans takes m before (x ∷ []) e b) (c.if-not-is_whole-2.ensures.0 refl) c.run_into-end.ensures.runs)));
      known_is = i.known_is ∙ ap (λ l. i.popped ++ l) pop.received.1 ∙ sym (append_assoc i.popped (x ∷ []) (known_items popped_ring)) ∙ ap (λ l. (i.popped ++ x ∷ []) ++ l) known';
      received_is = ap (λ r. received r) c.run_into-end.ensures.ring ∙ pop.received.0 ∙ ap (λ l. l ++ x ∷ []) i.received_is ∙ append_assoc (received c.args.runner.now.ring) i.popped (x ∷ []);
      many = (let l = length-append i.popped (x ∷ []) in omega (arith, l, i.many));
      ring = same_consumer c.args.runner.now.ring popped_ring n.ring (same_consumer c.args.runner.now.ring c.loop.runner.ring popped_ring i.ring pop.ring) (same_ring popped_ring n.ring c.run_into-end.ensures.ring);
      layout = c.run_into-end.ensures.layout ∙ i.layout;
    }

pub returns : goal.returns
returns g c =
    let m : Manner = manner c.args.host.now.pick c.args.host.now.workers in
    let takes = g.T.Teller.takes in
    let high = c.args.host.now.greatest in
    let i = c.loop.invariant in
    let w = c.requires.waiting in
    let old = c.args.runner.now in
    let layout : Layout = old.engine.layout in
    let first : List Sent = one_or_none c.args.first in
    let known : List Sent = known_items old.ring in
    let whole = ap length i.known_is in
    let both = length-append i.popped (known_items c.loop.runner.ring) in
    let slots = c.cached_slots-end.ensures in
    let same = ap (λ r. length (known_items r)) c.run_first-end.ensures.ring in
    let none : length (known_items c.loop.runner.ring) ≡ 0 = omega (arith, whole, both, i.many, slots, same, c.loop-test.false) in
    let popped_is : i.popped ≡ known = sym (i.known_is ∙ ap (λ l. i.popped ++ l) (empty_is (known_items c.loop.runner.ring) none) ∙ append-nil i.popped) in
    let Ready : Sent → Type 0 = λ x. IsReadyPlan layout high x.plan in
    let ready : All Ready (first ++ i.popped) = All-append Ready first i.popped w.first_ready (subst (All Ready) (sym popped_is) w.ready) in
    let numbered = subst (λ (l : List Sent). AreNumbered w.before (first ++ l)) (sym popped_is) w.numbered in
    let l1 = length-append first i.popped in
    let l2 = ap length popped_is in
    let at : w.before + length (first ++ i.popped) + 1 ≡ c.args.host.now.sent + 1 = omega (arith, l1, l2, w.upto_is) in
    record {
      runs = record {
        runs = record {
          popped = i.popped;
          plans = runs_whole takes m (first ++ i.popped) i.run;
          received_is = i.received_is;
          later = [];
          whole = λ e. popped_is ∙ sym (append-nil known);
        };
        ring = i.ring;
        layout = i.layout;
      };
      goes_on = λ e. record {
        small = rw i.run.state_is (state_after-within layout high (contents old.engine) (first ++ i.popped) ready w.small);
        few = w.few;
        can = subst (g.T.Teller.can_take c.loop.teller) at
            (can_go_on takes m g.T.Teller.can_take g.met.T.Teller.goes_on (contents old.engine) old.last w.before (first ++ i.popped) i.run.rans c.args.teller.now c.loop.teller i.run.run numbered i.run.told w.can);
      };
    }
