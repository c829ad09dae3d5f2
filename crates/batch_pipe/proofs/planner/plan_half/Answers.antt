use Rattle.event_reader.specs.Versions.{greatest_of}
use Rattle.batch_pipe.specs.PlannedBatches.{bench, layout_by}
use Rattle.batch_pipe.proofs.Ahead.{ahead_nothing}
use Rattle.batch_pipe.proofs.planner.plan_half.Goals as goal

pub returns-else-planning-clause-plans : goal.returns-else-planning-clause-plans
returns-else-planning-clause-plans g c =
    let p = c.args.planner.now in
    ahead_nothing g.A.EventApp.event_of (layout_by g.A.EventApp.table_count p.reader) (greatest_of p.reader.past.version) (bench p (g.S.Source.left c.args.source.now))
