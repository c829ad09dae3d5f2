use Rattle.std.proofs.Common.{◌≡◌, ℕ, ◌+◌, ◌<◌, ◌≤◌, List, [], ◌++◌, All, length, map, drop, zero-le, refl, sym, ap, subst, ◌∙◌, arith}
use Rattle.std.proofs.lemmas.List.{take-append-drop}
use Rattle.std.proofs.lemmas.List.Elements.{All-same, All-nil}
use Rattle.morph_base.specs.declared.plan.PlanOp.{PlanOp}
use Rattle.morph_base.specs.declared.plan.PlanEvent.{PlanEvent}
use Rattle.morph_base.specs.Sources.{IsSource}
use Rattle.morph_base.specs.OpLists.{OpList}
use Rattle.txn_splitter.specs.Txns.{txn_ops, txn_count, txn_at, txn_target}
use Rattle.txn_splitter.proofs.TxnLemmas.{txn_start, txn_next, txn_last, txn_none, txn_ops_few}
use Rattle.precedence_graph.specs.Planned.{HasWriters, HasLevels, HasEventLevels, txn_event, targets_in, parameters_in, ArePlanned, AreEventsPlanned}
use Rattle.precedence_graph.proofs.EventLemmas.{EndBy, end_by_first, end_by_next, events_grow, events_many, events_more}
use Rattle.precedence_graph.proofs.EnteredLemmas.{event_levels_kept, event_levels_next, most_is, most_low}
use Rattle.precedence_graph.proofs.WriterLemmas.{source_among_none}
use Rattle.precedence_graph.proofs.planned.plan_events.Goals as goal

pub new-requires : goal.new-requires
new-requires c = omega (arith, c.requires.count, txn_ops_few c.args.txns.now c.requires.txns)

pub loop-i-init : goal.loop-i-init
loop-i-init c =
    let x = c.args.txns.now in
    let ops : List PlanOp = c.args.ops.items in
    let empty : ops ≡ [] = ap (λ (l : OpList). l.items) c.requires.coming in
    let none : length ops ≡ 0 = ap length empty in
    record {
      start = λ some. none ∙ sym (txn_start x c.requires.txns some);
      end = λ all. none ∙ sym (txn_none x c.requires.txns (omega arith));
      coming = ap (λ (l : OpList). l.coming) c.requires.coming ∙ ap (λ n. drop n (txn_ops x)) (sym none);
      event_room = omega (arith, c.in_ok-events.ensures.room, c.len.ensures);
      planned = record { many = refl; each = λ o lt. absurd (omega arith); low = All-same (λ q. q.level ≤ length ops) ops [] empty (All-nil (λ q. q.level ≤ length ops)) };
      events = record {
        events_are = ap (map txn_event) c.in_ok-events.ensures.items;
        level_is = λ j lt. absurd (omega arith);
        low = All-same (λ e. e.level ≤ 0) c.in_ok-events.events.items [] c.in_ok-events.ensures.items (All-nil (λ e. e.level ≤ 0));
      };
      written = record {
        targets = sym (ap targets_in empty);
        parameters = sym (ap parameters_in empty);
        few = zero-le;
      };
      writers = record {
        count = c.in_ok-writers.ensures.count ∙ sym none;
        room = omega (arith, c.in_ok-writers.ensures.room, c.requires.count);
        source = λ key. subst (IsSource (length ops) (txn_target x) (λ _. 0) 1 key) (sym (c.in_ok-writers.ensures.none key)) (source_among_none (length ops) (txn_target x) key none);
      };
      levels = λ o lt. absurd (omega arith);
      event_levels = λ o lt. absurd (omega arith);
    }

pub overflow_add-level : goal.overflow_add-level
overflow_add-level c =
    let x = c.args.txns.now in
    let i : ℕ = c.loop-i.i in
    let lt : i < txn_count x = omega (arith, c.len-i-end.ensures, c.loop-i-test.true) in
    let before : List PlanOp = c.loop-i.ops.items in
    let ops : List PlanOp = c.plan_event_ops-most.new.ops.items in
    let events : List PlanEvent = c.loop-i.events.items in
    let many = events_many x c.requires.txns before (length before) c.loop-i.invariant.planned i events (omega arith) c.loop-i.invariant.events in
    let has = event_levels_kept (txn_at x i).first ops before events c.loop-i.writers c.plan_event_ops-most.ensures.kept (c.loop-i.invariant.start lt) c.loop-i.invariant.event_levels in
    omega (arith, c.plan_event_ops-most.ensures.level, most_low x c.requires.txns i lt ops c.plan_event_ops-most.ensures.planned events many c.loop-i.writers has c.loop-i.invariant.events.low, c.requires.txns.numbering.few)

pub enter_event-requires-clause-event_levels : goal.enter_event-requires-clause-event_levels
enter_event-requires-clause-event_levels c =
    let x = c.args.txns.now in
    let i : ℕ = c.loop-i.i in
    let lt : i < txn_count x = omega (arith, c.len-i-end.ensures, c.loop-i-test.true) in
    let first : ℕ = (txn_at x i).first in
    let before : List PlanOp = c.loop-i.ops.items in
    let ops : List PlanOp = c.plan_event_ops-most.new.ops.items in
    let events : List PlanEvent = c.loop-i.events.items in
    let many = events_many x c.requires.txns before (length before) c.loop-i.invariant.planned i events (omega arith) c.loop-i.invariant.events in
    let has = event_levels_kept first ops before events c.loop-i.writers c.plan_event_ops-most.ensures.kept (c.loop-i.invariant.start lt) c.loop-i.invariant.event_levels in
    subst (λ es. HasEventLevels ops es first c.loop-i.writers) (sym (c.as_slice.ensures ∙ c.add.ensures.items))
    (event_levels_next x c.requires.txns i lt ops c.plan_event_ops-most.ensures.planned events many c.loop-i.writers has _)

pub loop-i-preserved : goal.loop-i-preserved
loop-i-preserved c =
    let x = c.args.txns.now in
    let i : ℕ = c.loop-i.i in
    let lt : i < txn_count x = omega (arith, c.len-i-end.ensures, c.loop-i-test.true) in
    let first : ℕ = (txn_at x i).first in
    let before : List PlanOp = c.loop-i.ops.items in
    let ops : List PlanOp = c.plan_event_ops-most.new.ops.items in
    let events : List PlanEvent = c.loop-i.events.items in
    let e : PlanEvent = record { ts = c.event_at-ts.result.ts; first = c.event_at-ts.result.first; count = c.event_at-ts.result.count; level = 1 + c.plan_event_ops-most.result } in
    let done = c.plan_event_ops-most.ensures.planned in
    let many : length ops ≡ first + (txn_at x i).count = done.many in
    let events_before = events_many x c.requires.txns before (length before) c.loop-i.invariant.planned i events (omega arith) c.loop-i.invariant.events in
    let has = event_levels_kept first ops before events c.loop-i.writers c.plan_event_ops-most.ensures.kept (c.loop-i.invariant.start lt) c.loop-i.invariant.event_levels in
    let grown : before ++ drop first ops ≡ ops = ap (λ ps. ps ++ drop first ops) (sym c.plan_event_ops-most.ensures.kept) ∙ take-append-drop first ops in
    let so_far : AreEventsPlanned x ops i events =
    subst (λ ps. AreEventsPlanned x ps i events) grown
    (events_grow x c.requires.txns before (length before) c.loop-i.invariant.planned (drop first ops) i events (omega arith) (subst (EndBy x i) (sym (c.loop-i.invariant.start lt)) (end_by_first x c.requires.txns i lt)) c.loop-i.invariant.events) in
    let level = ap (λ n. 1 + n) (c.plan_event_ops-most.ensures.level ∙ most_is x c.requires.txns i lt ops done events events_before c.loop-i.writers has) in
    let low = most_low x c.requires.txns i lt ops done events events_before c.loop-i.writers has c.loop-i.invariant.events.low in
    record {
      start = λ next. many ∙ sym (txn_next x c.requires.txns i next);
      end = λ all. many ∙ txn_last x c.requires.txns i (omega arith);
      coming = c.plan_event_ops-most.ensures.coming;
      event_room = omega (arith, c.add.ensures.room, c.loop-i.invariant.event_room);
      planned = subst (λ n. ArePlanned x n ops) (sym many) done;
      events = subst (AreEventsPlanned x ops (i + 1)) (sym c.add.ensures.items)
          (events_more x c.requires.txns ops (first + (txn_at x i).count) done i events e lt (end_by_next x c.requires.txns i lt) so_far c.event_at-ts.ensures.event level (omega (arith, c.plan_event_ops-most.ensures.level, low)));
      written = c.plan_event_ops-most.ensures.written;
      writers = subst (λ n. HasWriters x n c.enter_event.new.writers) (sym many) c.enter_event.ensures.writers;
      levels = subst (λ n. HasLevels ops n c.enter_event.new.writers) (sym many) c.enter_event.ensures.levels;
      event_levels = subst (λ n. HasEventLevels ops c.add.new.self.items n c.enter_event.new.writers) (sym many)
          (subst (λ es. HasEventLevels ops es (first + (txn_at x i).count) c.enter_event.new.writers) c.as_slice.ensures c.enter_event.ensures.event_levels);
    }
