use Rattle.std.proofs.Common.{◌≡◌, ℕ, ◌+◌, ◌≤◌, le_trans, [], ◌∷◌, ◌-◌, ◌++◌, List, length, true, false, Option, Some, None, refl, ap, sym, subst, ◌∙◌, arith, inl, inr, ◌⊎◌}
use Rattle.std.specs.Prelude.{All, IsTrue}
use Rattle.std.proofs.lemmas.List.Elements.{All-append}
use Rattle.morph_base.specs.declared.key.Layout.{Layout}
use Rattle.event_reader.specs.Versions.{greatest_of}
use Rattle.morph_base.specs.Flat.{contents}
use Rattle.event_reader.specs.Reader.{ReaderView}
use Rattle.rtrb.specs.Ring.{sent, received, known_items, known_free, producer_capacity}
use Rattle.batch_pipe.specs.declared.items.Sent.{Sent}
use Rattle.batch_pipe.specs.PlannedBatches.{IsReadyPlan, AreNumbered, PlansAhead, bench, CanPlan, layout_by}
use Rattle.batch_pipe.specs.PlanRuns.{Manner, CanRun, manner, one_or_none}
use Rattle.batch_pipe.specs.PipeRounds.{PipeView, IsGoing, IsRound, number_before}
use Rattle.batch_pipe.specs.Inside.{view_of}
use Rattle.batch_pipe.proofs.Ahead.{numbered-append, numbered-none, same_layout, waits_ready, halves_keep}
use Rattle.batch_pipe.proofs.Bounds.{state_after-within}
use Rattle.batch_pipe.proofs.Desks.{empty_is}
use Rattle.batch_pipe.proofs.Rounds.{round_is, round_stopped, next_numbered, all_back, all_front, planning_is, not_planning, untold, some_waits, one_first, bool_cases, waiting_is, if_none, open_after, given, not_asked, plans_counted, counted_on, can_after}
use Rattle.batch_pipe.proofs.pipe.Pipe.round.Goals as goal

-- the numbers of the one that was read first, or of those that waited
first_behind : (n sent : ℕ) (first : Option Sent) (waiting : List Sent) → length (one_or_none first) ≡ 1 - length waiting → n + length waiting ≡ sent → AreNumbered n waiting →
    AreNumbered sent (one_or_none first) → AreNumbered n (one_or_none first ++ waiting)
first_behind n sent None waiting one at numbered first_numbered = numbered
first_behind n sent (Some x) [] one at numbered first_numbered =
    let same : sent ≡ n = omega (arith, at) in
    numbered-append n (x ∷ []) [] (subst (λ k. AreNumbered k (x ∷ [])) same first_numbered) (numbered-none (n + 1))
first_behind n sent (Some x) (y ∷ waiting) one at numbered first_numbered = absurd (omega (arith, one))

pub returns-in-Err-clause-round : goal.returns-in-Err-clause-round
returns-in-Err-clause-round g c =
    let m : Manner = manner c.args.pick.now c.args.workers in
    let p = c.self.inside in
    let layout : Layout = layout_by g.A.EventApp.table_count p.planner.reader in
    let a : PipeView g.row.A.Denot = view_of p in
    let b : PipeView g.row.A.Denot = record {
      reader = c.read_first.new.planner.reader;
      engine = p.runner.engine;
      waiting = known_items p.runner.ring;
      sent = c.read_first.new.planner.sent;
      last = p.runner.last;
      tail = Some c.in-Err.tail;
      ahead = producer_capacity c.read_first.new.planner.ring;
    } in
    let asked : c.asks_first-asked.result ≡ true = asked_is (bool_cases c.asks_first-asked.result) in
    let met = c.asks_first-asked.ensures.0 asked in
    let many = c.cached_slots.ensures in
    let waits : a.waiting ≡ [] = empty_is a.waiting (omega (arith, met.1, many)) in
    subst (λ (v : PipeView g.row.A.Denot). IsRound g.A.EventApp.event_of g.T.Teller.takes m v (g.S.Source.left c.args.source.now) c.args.teller.now b (g.S.Source.left c.read_first.new.source) c.args.teller.now) c.self.view_is
    (round_stopped g.A.EventApp.event_of layout m {a = a} {b = b} c.args.teller.now c.in-Err.tail c.in-Err.ensures.stops (untold a.tail c.is_none-planning.result c.is_none-planning.ensures met.0) waits
    refl refl refl c.in-Err.ensures.unsent refl (ap (λ r. producer_capacity r) c.in-Err.ensures.ring) c.in-Err.ensures.planner c.self.invariant.numbered)
  where
    asked_is : (c.asks_first-asked.result ≡ true) ⊎ (c.asks_first-asked.result ≡ false) → c.asks_first-asked.result ≡ true
    asked_is (inl e) = e
    asked_is (inr e) = absurd (let no = (c.in-Err.ensures.idle e).0 in cc)

pub run_halves-stop-requires-clause-able : goal.run_halves-stop-requires-clause-able
run_halves-stop-requires-clause-able g c κs within = λ planning. by planning (bool_cases c.asks_first-asked.result)
  where
    by : IsTrue c.is_none-planning.result → (c.asks_first-asked.result ≡ true) ⊎ (c.asks_first-asked.result ≡ false) → CanPlan g.A.EventApp.table_count c.read_first.new.planner
    by planning (inl e) = c.in-Ok.ensures.able e
    by planning (inr e) =
        let f = c.in-Ok.ensures in
        let same = (f.idle e).1 in
        let none : c.in-Ok.first ≡ None = ap given (f.idle e).0 in
        let can = c.self.invariant.able (untold c.self.inside.tail c.is_none-planning.result c.is_none-planning.ensures planning) in
        let sent_none = ap length f.plans.sent_is in
        let first_none = ap (λ o. length (one_or_none o)) none in
        let number = ap (λ (r : ReaderView g.row.A.Denot). r.lines.number) same in
        record {
          live = subst (λ (r : ReaderView g.row.A.Denot). IsTrue r.live) (sym same) can.live;
          layout = f.layout ∙ can.layout ∙ sym (same_layout g.A.EventApp.table_count c.self.inside.planner.reader c.read_first.new.planner.reader f.same);
          counted = omega (arith, can.counted, number, f.plans.number_is, sent_none, first_none);
        }

pub run_halves-stop-requires-clause-waiting : goal.run_halves-stop-requires-clause-waiting
run_halves-stop-requires-clause-waiting g c κs within =
    let p = c.self.inside in
    let i = c.self.invariant in
    let high = greatest_of c.read_first.new.planner.reader.past.version in
    let a : PipeView g.row.A.Denot = view_of p in
    let layout : Layout = layout_by g.A.EventApp.table_count p.planner.reader in
    let f = c.in-Ok.ensures.plans in
    let first : List Sent = one_or_none c.in-Ok.first in
    let going : IsGoing a = subst (λ (v : PipeView g.row.A.Denot). IsGoing v) (sym c.self.view_is) c.requires.going in
    let one = one_first a c.in-Ok.first c.asks_first-asked.result c.is_none-planning.result c.cached_slots.result going c.cached_slots.ensures c.is_none-planning.ensures c.asks_first-asked.ensures
    c.in-Ok.ensures.asked (λ e. ap given (c.in-Ok.ensures.idle e).0) in
    let high_is : c.greatest.result ≡ high = c.greatest.ensures ∙ ap greatest_of c.version.ensures in
    subst (λ (n : ℕ). CanRun g.T.Teller.can_take n c.read_first.new.planner.sent first p.runner c.args.teller.now) (sym high_is)
    (record {
      small = λ key. le_trans (i.small key) c.in-Ok.ensures.same.3.rises;
      first_ready = subst (λ (l : Layout). All (λ (x : Sent). IsReadyPlan l high x.plan) first) (sym i.layout)
          (subst (All (λ (x : Sent). IsReadyPlan layout high x.plan)) (sym f.sent_is) f.ready);
      ready = waits_ready g.A.EventApp.event_of p.runner.engine.layout p.planner.reader c.read_first.new.planner.reader a.waiting c.asks_first-asked.result
          (λ e. (let met = c.asks_first-asked.ensures.0 e in let many = c.cached_slots.ensures in omega (arith, met.1, many))) (λ e. (c.in-Ok.ensures.idle e).1) i.ready;
      before = number_before a;
      numbered = first_behind (number_before a) p.planner.sent c.in-Ok.first a.waiting one (omega (arith, i.number)) i.numbered
          (subst (AreNumbered p.planner.sent) (sym f.sent_is) f.numbered);
      upto_is = (let first_is = ap length f.sent_is in omega (arith, first_is, f.number_is, i.number));
      few =
          let bound = c.live-reads.ensures.bound in
          let limit = c.live-reads.ensures.limit in
          let counted = plans_counted f.more f.plans in
          omega (arith, bound, limit, counted, f.number_is, i.counted);
      can = subst (λ (v : PipeView g.row.A.Denot). g.T.Teller.can_take c.args.teller.now (number_before v + 1)) (sym c.self.view_is) c.requires.next;
    })

pub returns-clause-round : goal.returns-clause-round
returns-clause-round g c =
    let m : Manner = manner c.args.pick.now c.args.workers in
    let p = c.self.inside in
    let i = c.self.invariant in
    let layout : Layout = layout_by g.A.EventApp.table_count p.planner.reader in
    let n = c.run_halves-stop.new in
    let a : PipeView g.row.A.Denot = view_of p in
    let b : PipeView g.row.A.Denot = record {
      reader = n.planner.reader;
      engine = n.runner.engine;
      waiting = known_items c.bring_together.new.consumer;
      sent = n.planner.sent;
      last = n.runner.last;
      tail = c.tail_after-self-inside.result;
      ahead = producer_capacity c.bring_together.new.producer;
    } in
    let going : IsGoing a = subst (λ (v : PipeView g.row.A.Denot). IsGoing v) (sym c.self.view_is) c.requires.going in
    let h = c.run_halves-stop.ensures in
    let f = c.in-Ok.ensures in
    let bt = c.bring_together.ensures in
    let r = h.runs.runs in
    let q = c.read_first.new.planner in
    let layout_is : layout_by g.A.EventApp.table_count q.reader ≡ layout = same_layout g.A.EventApp.table_count p.planner.reader q.reader f.same in
    let plans = subst (λ (l : Layout). PlansAhead g.A.EventApp.event_of l (greatest_of n.planner.reader.past.version) (bench q (g.S.Source.left c.read_first.new.source))
    c.run_halves-stop.result.0 (bench n.planner (g.S.Source.left n.source))) layout_is h.plans in
    let tails = c.is_none-planning.ensures in
    let first : Option Sent = c.in-Ok.first in
    let one = one_first a first c.asks_first-asked.result c.is_none-planning.result c.cached_slots.result going c.cached_slots.ensures tails c.asks_first-asked.ensures
    f.asked (λ e. ap given (f.idle e).0) in
    let before = i.fifo ∙ ap (λ r. sent r) (sym f.ring) in
    let tell = c.tail_after-self-inside.ensures in
    let capacity = bt.sending.0.1 ∙ h.ring.1 ∙ ap (λ r. producer_capacity r) f.ring in
    let room = subst (λ (k : ℕ). a.ahead ≤ k + length a.waiting) (ap (λ r. known_free r) (sym f.ring)) i.free in
    subst (λ (v : PipeView g.row.A.Denot). IsRound g.A.EventApp.event_of g.T.Teller.takes m v (g.S.Source.left c.args.source.now) c.args.teller.now b (g.S.Source.left n.source) n.teller) c.self.view_is
    (round_is g.A.EventApp.event_of layout m {a = a} {b = b} (known_free q.ring) first f.plans plans r before
    (ap (λ l. l ++ known_items c.bring_together.new.consumer) (sym bt.receiving.1) ∙ bt.fifo ∙ bt.sending.1)
    i.numbered i.number room one
    (λ some.
    let off = not_planning a.tail c.is_none-planning.result tails some in
    let idle = h.idle off in
    let first_idle = f.idle (not_asked c.asks_first-asked.result c.is_none-planning.result c.cached_slots.result c.asks_first-asked.ensures off) in
    (idle.0, idle.1, idle.2 ∙ first_idle.1, idle.3 ∙ first_idle.2))
    h.planner
    (λ no. h.filled (planning_is a.tail c.is_none-planning.result tails no))
    (some_waits a going) going.1.1 tell.whole tell.memory tell.untold h.runs.layout capacity)

pub returns-clause-next : goal.returns-clause-next
returns-clause-next g c =
    let i = c.self.invariant in
    let round = returns-clause-round g c in
    let going = c.requires.going in
    let number = ap (λ (v : PipeView g.row.A.Denot). v.sent) c.self.view_is in
    let few = subst (λ (v : PipeView g.row.A.Denot). length v.waiting ≤ v.sent) c.self.view_is i.number in
    λ uncut. can_after round going g.T.Teller.can_take g.met.T.Teller.goes_on few c.requires.next uncut

pub invariant_of-self-2 : goal.invariant_of-self-2
invariant_of-self-2 g c =
    let m : Manner = manner c.args.pick.now c.args.workers in
    let p = c.self.inside in
    let i = c.self.invariant in
    let layout : Layout = layout_by g.A.EventApp.table_count p.planner.reader in
    let n = c.run_halves-stop.new in
    let a : PipeView g.row.A.Denot = view_of p in
    let b : PipeView g.row.A.Denot = record {
      reader = n.planner.reader;
      engine = n.runner.engine;
      waiting = known_items c.bring_together.new.consumer;
      sent = n.planner.sent;
      last = n.runner.last;
      tail = c.tail_after-self-inside.result;
      ahead = producer_capacity c.bring_together.new.producer;
    } in
    let h = c.run_halves-stop.ensures in
    let f = c.in-Ok.ensures in
    let bt = c.bring_together.ensures in
    let r = h.runs.runs in
    let old = c.read_first.new.planner in
    let q = subst (λ (v : PipeView g.row.A.Denot). IsRound g.A.EventApp.event_of g.T.Teller.takes m v (g.S.Source.left c.args.source.now) c.args.teller.now b (g.S.Source.left n.source) n.teller) (sym c.self.view_is)
    (returns-clause-round g c) in
    let going : IsGoing a = subst (λ (v : PipeView g.row.A.Denot). IsGoing v) (sym c.self.view_is) c.requires.going in
    let next = next_numbered g.A.EventApp.event_of layout m q i.number in
    let first_layout : layout_by g.A.EventApp.table_count old.reader ≡ layout = same_layout g.A.EventApp.table_count p.planner.reader old.reader f.same in
    let tables_are : layout_by g.A.EventApp.table_count n.planner.reader ≡ layout = same_layout g.A.EventApp.table_count old.reader n.planner.reader h.same ∙ first_layout in
    let layout_is : n.runner.engine.layout ≡ layout = h.runs.layout ∙ i.layout in
    let then : ℕ = greatest_of old.reader.past.version in
    let now : ℕ = greatest_of n.planner.reader.past.version in
    let Old : Sent → Type 0 = λ x. IsReadyPlan p.runner.engine.layout then x.plan in
    let Ready : Sent → Type 0 = λ x. IsReadyPlan layout then x.plan in
    let tails = c.is_none-planning.ensures in
    let one = one_first a c.in-Ok.first c.asks_first-asked.result c.is_none-planning.result c.cached_slots.result going c.cached_slots.ensures tails c.asks_first-asked.ensures
    f.asked (λ e. ap given (f.idle e).0) in
    let high_is : now ≡ then = halves_keep old.reader n.planner.reader c.is_none-planning.result
    (λ planning.
    let able = i.able (untold p.tail c.is_none-planning.result tails planning) in
    let first_is = ap length f.plans.sent_is in
    let counted = plans_counted f.plans.more f.plans.plans in
    omega (arith, one, first_is, counted, i.number, able.counted))
    h.same.3 (λ off. (h.idle off).2) in
    let first' : All Ready (one_or_none c.in-Ok.first) = subst (All Ready) (sym f.plans.sent_is) f.plans.ready in
    let waited' : All Ready a.waiting = subst (λ (l : Layout). All (λ (x : Sent). IsReadyPlan l then x.plan) a.waiting) i.layout
    (waits_ready g.A.EventApp.event_of p.runner.engine.layout p.planner.reader old.reader a.waiting c.asks_first-asked.result
    (λ e. (let met = c.asks_first-asked.ensures.0 e in let many = c.cached_slots.ensures in omega (arith, met.1, many))) (λ e. (f.idle e).1) i.ready) in
    let more' : All Ready h.plans.more = subst (λ (n : ℕ). All (λ (x : Sent). IsReadyPlan layout n x.plan) h.plans.more) high_is
    (subst (λ (l : Layout). All (λ (x : Sent). IsReadyPlan l now x.plan) h.plans.more) first_layout h.plans.ready) in
    let before = i.fifo ∙ ap (λ r. sent r) (sym f.ring) in
    let after = ap (λ l. l ++ known_items c.bring_together.new.consumer) (sym bt.receiving.1) ∙ bt.fifo ∙ bt.sending.1 in
    let waits : r.popped ++ b.waiting ≡ a.waiting ++ h.plans.more = waiting_is g.A.EventApp.event_of layout m (received p.runner.ring) (received n.runner.ring) a.waiting b.waiting
    (sent old.ring) (sent n.planner.ring) r.popped h.plans.more before after h.plans.sent_is r.received_is in
    let all' : All Ready (r.popped ++ b.waiting) = subst (All Ready) (sym waits) (All-append Ready a.waiting h.plans.more waited' more') in
    let popped' : All Ready r.popped = all_front Ready r.popped b.waiting all' in
    let runs' : All Ready r.plans.runs = all_front Ready r.plans.runs r.plans.lost (subst (All Ready) r.plans.parts (All-append Ready (one_or_none c.in-Ok.first) r.popped first' popped')) in
    let ready' = subst (λ (n : ℕ). All (λ (x : Sent). IsReadyPlan layout n x.plan) b.waiting) (sym high_is) (all_back Ready r.popped b.waiting all') in
    record {
      pair = bt.pair;
      fifo = bt.fifo;
      room = bt.room;
      free = bt.free;
      small = λ key. le_trans (rw r.plans.run.state_is (state_after-within layout then (contents p.runner.engine) r.plans.runs runs' (λ k. le_trans (i.small k) f.same.3.rises) key)) h.same.3.rises;
      ready = subst (λ (l : Layout). All (λ (x : Sent). IsReadyPlan l now x.plan) b.waiting) (sym layout_is) ready';
      numbered = next.0;
      number = next.1;
      counted = counted_on q going i.counted;
      layout = layout_is ∙ sym tables_are;
      able = λ none.
          let o = open_after c.tail_after-self-inside.result a.tail c.run_halves-stop.result.0 c.run_halves-stop.result.1 c.tail_after-self-inside.ensures.whole c.tail_after-self-inside.ensures.memory c.tail_after-self-inside.ensures.untold none in
          let can = if_none c.run_halves-stop.result.0 (CanPlan g.A.EventApp.table_count n.planner) o.1 (h.able (planning_is a.tail c.is_none-planning.result c.is_none-planning.ensures o.0)) in
          record { live = can.live; layout = can.layout; counted = can.counted };
    }
