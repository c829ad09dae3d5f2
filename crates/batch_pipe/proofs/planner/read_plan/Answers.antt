use Rattle.std.proofs.Common.{[], ◌∷◌, ap, refl}
use Rattle.event_reader.specs.Versions.{greatest_of}
use Rattle.morph_base.specs.Transactions.{transactions_of}
use Rattle.morph_base.proofs.BoundLaws.{high_of-alike}
use Rattle.batch_pipe.specs.PlannedBatches.{layout_by}
use Rattle.batch_pipe.specs.GivenBatches.{stand}
use Rattle.batch_pipe.proofs.GivenBatches.{gives_one}
use Rattle.batch_pipe.proofs.planner.read_plan.Goals as goal

pub returns-in-Ok-clause-plan : goal.returns-in-Ok-clause-plan
returns-in-Ok-clause-plan g c =
    let answers = rw c.in-Ok-Batch.field-0-is at c.in-Ok-Batch.ensures.answer.answers in
    let shows = rw c.in-Ok-Batch.field-0-is at c.in-Ok-Batch.ensures.answer.shows in
    let valid = rw c.in-Ok-Batch.field-0-is at c.in-Ok-Batch.ensures.batch.valid in
    let counted = rw c.in-Ok-Batch.field-0-is at c.in-Ok-Batch.ensures.batch.counted in
    record {
      batches = transactions_of c.in-Ok-Batch.batch ∷ [];
      middle = stand c.next_batch.new.self (g.S.Source.left c.next_batch.new.source);
      gives = gives_one g.A.EventApp.event_of (stand c.args.reader.now (g.S.Source.left c.args.source.now)) (stand c.next_batch.new.self (g.S.Source.left c.next_batch.new.source))
          c.in-Ok-Batch.batch answers shows valid.0 counted c.in-Ok-Batch.ensures.read.bound c.in-Ok-Batch.ensures.read.unended c.in-Ok-Batch.ensures.same;
      plans_are = ap (λ t. t ∷ []) c.in-Ok.ensures.events;
      stops = refl;
    }

pub returns-in-Ok-clause-ready : goal.returns-in-Ok-clause-ready
returns-in-Ok-clause-ready g c =
    let valid = rw c.in-Ok-Batch.field-0-is at c.in-Ok-Batch.ensures.batch.valid in
    record {
      valid = c.in-Ok.ensures.valid;
      keys = c.in-Ok.ensures.keys (layout_by g.A.EventApp.table_count c.args.reader.now) valid.2;
      high_is = high_of-alike (greatest_of c.next_batch.new.self.past.version) c.in-Ok-Batch.batch c.in-Ok.plan c.in-Ok.ensures.valid.plan c.in-Ok.ensures.events valid.3 valid.0;
    }
