use Rattle.std.proofs.Common.{◌+◌, [], refl, arith}
use Rattle.event_reader.specs.Versions.{greatest_of}
use Rattle.batch_pipe.specs.declared.items.Sent.{Sent}
use Rattle.batch_pipe.specs.PlannedBatches.{layout_by}
use Rattle.batch_pipe.specs.GivenBatches.{stand}
use Rattle.batch_pipe.proofs.Ahead.{ahead_nothing, ahead_more}
use Rattle.batch_pipe.proofs.planner.read_first.Goals as goal

pub returns-then-not-asked-clause-plans : goal.returns-then-not-asked-clause-plans
returns-then-not-asked-clause-plans g c =
    let p = c.args.planner.now in
    ahead_nothing g.A.EventApp.event_of (layout_by g.A.EventApp.table_count p.reader) (greatest_of p.reader.past.version) (record { at = stand p.reader (g.S.Source.left c.args.source.now); sent = []; number = p.sent })

pub returns-clause-plans : goal.returns-clause-plans
returns-clause-plans g c =
    let p = c.args.planner.now in
    let layout = layout_by g.A.EventApp.table_count p.reader in
    let x : Sent = record { number = p.sent + 1; layout = p.layout; greatest = c.greatest.result; plan = c.in-Ok.plan } in
    ahead_more g.A.EventApp.event_of layout (greatest_of p.reader.past.version) _ x (ahead_nothing g.A.EventApp.event_of layout (greatest_of p.reader.past.version) (record { at = stand p.reader (g.S.Source.left c.args.source.now); sent = []; number = p.sent }))
    c.in-Ok.ensures.plan (λ some. absurd (omega (arith, some))) c.in-Ok.ensures.ready refl refl refl
