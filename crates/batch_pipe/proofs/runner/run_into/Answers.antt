use Rattle.std.proofs.Common.{true, false, [], ◌∷◌, ap, refl}
use Rattle.morph_base.specs.Flat.{contents}
use Rattle.batch_pipe.specs.PlanRuns.{desk, manner}
use Rattle.batch_pipe.proofs.Desks.{is_result, runs_one, runs_whole, loses_one, refused_one}
use Rattle.batch_pipe.proofs.runner.run_into.Goals as goal

pub take-requires-clause-result : goal.take-requires-clause-result
take-requires-clause-result g c = is_result c.in-Ok.ensures.run

pub returns-then-take-clause-runs : goal.returns-then-take-clause-runs
returns-then-take-clause-runs g c =
    let m = manner c.args.host.now.pick c.args.host.now.workers in
    runs_whole g.T.Teller.takes m (c.args.sent ∷ [])
    (runs_one g.T.Teller.takes m (desk c.args.runner.now c.args.teller.now) _ c.args.sent c.in-Ok.ran true c.in-Ok.ensures.run c.if-take.ensures c.in-Ok.ensures.state c.in-Ok.ensures.last)

pub returns-else-take-clause-runs : goal.returns-else-take-clause-runs
returns-else-take-clause-runs g c =
    let m = manner c.args.host.now.pick c.args.host.now.workers in
    refused_one g.T.Teller.takes m c.args.sent
    (runs_one g.T.Teller.takes m (desk c.args.runner.now c.args.teller.now) _ c.args.sent c.in-Ok.ran false c.in-Ok.ensures.run c.if-take.ensures c.in-Ok.ensures.state c.in-Ok.ensures.last)

pub returns-in-Err-clause-runs : goal.returns-in-Err-clause-runs
returns-in-Err-clause-runs g c =
    let m = manner c.args.host.now.pick c.args.host.now.workers in
    loses_one g.T.Teller.takes m (desk c.args.runner.now c.args.teller.now) _ c.args.sent (ap contents c.in-Err.ensures.refused.0) c.in-Err.ensures.refused.1 refl
