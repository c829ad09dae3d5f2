use Rattle.std.proofs.Common.{Option, [], sym, subst}
use Rattle.batch_pipe.specs.declared.items.Sent.{Sent}
use Rattle.batch_pipe.specs.declared.runner.RunEnd.TheVariants.{Whole}
use Rattle.batch_pipe.specs.PlanRuns.{RunsPlans, Desk, desk, manner, one_or_none}
use Rattle.batch_pipe.proofs.Desks.{runs_nothing, runs_whole}
use Rattle.batch_pipe.proofs.runner.run_first.Goals as goal

pub returns-in-None-clause-runs : goal.returns-in-None-clause-runs
returns-in-None-clause-runs g c =
    let m = manner c.args.host.now.pick c.args.host.now.workers in
    let takes = g.T.Teller.takes in
    let at : Desk _ = desk c.args.runner.now c.args.teller.now in
    subst (λ (f : Option Sent). RunsPlans takes m at (one_or_none f) Whole at) (sym c.in-None.is) (runs_whole takes m [] (runs_nothing takes m at))
