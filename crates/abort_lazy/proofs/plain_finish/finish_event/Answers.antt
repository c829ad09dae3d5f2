use Rattle.std.proofs.Common.{◌≡◌, ◌∙◌, Bool, ap, arith}
use Rattle.morph_base.specs.Contents.{Contents}
use Rattle.morph_base.specs.Plans.{event_at, verdict}
use Rattle.abort_lazy.proofs.Made.{pushed}
use Rattle.abort_lazy.proofs.plain_finish.finish_event.Goals as goal

pub verdict_on-committed-requires : goal.verdict_on-committed-requires
verdict_on-committed-requires c = record {
  plan = c.requires.plan;
  closed = c.requires.closed;
  event = c.requires.event;
  values = record { many = (event_at c.args.plan.now c.args.i).first; enough = omega arith; are = c.requires.earlier.values };
}

pub returns : goal.returns
returns c =
    let before : c.finish_ops.new.settled.committed ≡ c.args.settled.now.committed = c.finish_ops.ensures.verdicts in
    let room : c.finish_ops.new.settled.committed.room ≡ c.args.settled.now.committed.room = ap (λ (l : Contents Bool). l.room) before in
    let finished = c.finish_ops.ensures.finished in
    record {
      finished = record { values = finished.values; workers = finished.workers; value_room = finished.value_room; worker_room = finished.worker_room };
      decided = record {
        verdicts = pushed (verdict c.args.plan.now) c.args.i c.finish_ops.new.settled.committed.items c.add.new.self.items c.verdict_on-committed.result
            (ap (λ (l : Contents Bool). l.items) before ∙ c.requires.decided.verdicts) c.add.ensures.items c.verdict_on-committed.ensures;
        room = omega (arith, room, c.requires.decided.room, c.add.ensures.room);
      };
    }
