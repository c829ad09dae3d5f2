use Rattle.std.proofs.Common.{◌≡◌, ◌<◌, ◌∙◌, ℕ, Bool, List, length, map, get_or, ap, sym, subst, arith, zero-add}
use Rattle.std.proofs.lemmas.List.FromFn.{length-map-range_with_len, get_or-map-range_with_len}
use Rattle.morph_base.specs.Graphs.{below}
use Rattle.morph_base.specs.Plans.{event_count, op_count, final, verdict}
use Rattle.abort_lazy.specs.Finishing.{AreFinishedSoFar, settler}
use Rattle.abort_lazy.proofs.Numbers.{ops_before, ops_before-first, ops_before-more, ops_before-all}
use Rattle.abort_lazy.proofs.Completing.{settlers_small}
use Rattle.abort_lazy.proofs.plain_finish.finish.Goals as goal

pub loop-i-init : goal.loop-i-init
loop-i-init c = record {
  finished = record {
    values = c.requires.room.no_value;
    workers = λ cap counters v is. c.requires.room.no_worker;
    value_room = omega (arith, c.requires.room.values);
    worker_room = omega (arith, c.requires.room.workers);
  };
  decided = record { verdicts = c.requires.room.no_verdict; room = omega (arith, c.requires.room.verdicts) };
}

pub finish_event-requires : goal.finish_event-requires
finish_event-requires c =
    let p = c.args.plan.now in
    let lt : c.loop-i.i < event_count p = omega (arith, c.len-i-end.ensures, c.loop-i-test.true) in
    record {
      plan = c.requires.plan;
      closed = c.requires.closed;
      event = lt;
      earlier = subst (λ n. AreFinishedSoFar p c.args.closed.now n c.loop-i.settled) (ops_before-first p c.loop-i.i c.requires.plan lt) c.loop-i.invariant.finished;
      decided = c.loop-i.invariant.decided;
    }

pub loop-i-preserved : goal.loop-i-preserved
loop-i-preserved c =
    let p = c.args.plan.now in
    let lt : c.loop-i.i < event_count p = omega (arith, c.len-i-end.ensures, c.loop-i-test.true) in
    record {
      finished = subst (λ n. AreFinishedSoFar p c.args.closed.now n c.finish_event.new.settled) (sym (ops_before-more p c.loop-i.i c.requires.plan lt)) c.finish_event.ensures.finished;
      decided = c.finish_event.ensures.decided;
    }

pub returns : goal.returns
returns c =
    let p = c.args.plan.now in
    let board = c.requires.closed in
    let all : c.loop-i.i ≡ event_count p = omega (arith, c.len-i-end.ensures, c.loop-i-test.false, c.loop-i.auto.i-end) in
    let whole : ops_before p c.loop-i.i ≡ op_count p = ap (ops_before p) all ∙ ops_before-all p c.requires.plan in
    let finished : AreFinishedSoFar p c.args.closed.now (op_count p) c.loop-i.settled =
    subst (λ n. AreFinishedSoFar p c.args.closed.now n c.loop-i.settled) whole c.loop-i.invariant.finished in
    let verdicts = c.loop-i.invariant.decided.verdicts ∙ ap (λ n. map (verdict p) (below n)) all in
    let tags = finished.workers board.0 board.1 board.2 board.3 in
    record {
      settled = record {
        values = ap length finished.values ∙ length-map-range_with_len (final p) 0 (op_count p);
        verdicts = ap length verdicts ∙ length-map-range_with_len (verdict p) 0 (event_count p);
        workers = ap length tags ∙ length-map-range_with_len (λ o. settler (board.3.ends.core.word o)) 0 (op_count p);
        tags = settlers_small p board.0 board.1 board.2 c.args.closed.now board.3 c.loop-i.settled.by.items tags;
        value = λ o lt. ap (λ (l : List ℕ). get_or l o 0) finished.values ∙ get_or-map-range_with_len (final p) 0 (op_count p) o o 0 lt (zero-add o);
        committed = λ i d lt. ap (λ (l : List Bool). get_or l i d) verdicts ∙ get_or-map-range_with_len (verdict p) 0 (event_count p) i i d lt (zero-add i);
      };
      tags = λ cap counters v is o lt.
          ap (λ (l : List ℕ). get_or l o 0) (finished.workers cap counters v is)
          ∙ get_or-map-range_with_len (λ k. settler (is.ends.core.word k)) 0 (op_count p) o o 0 lt (zero-add o);
    }
