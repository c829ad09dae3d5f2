use Rattle.std.proofs.Common.{arith}
use Rattle.abort_lazy.specs.Levels.{FitsLevels}
use Rattle.abort_lazy.proofs.Staging.{settling_stages}
use Rattle.abort_lazy.proofs.run.settle_levels.Goals as goal

pub go_over_by-requires-clause-few : goal.go_over_by-requires-clause-few
go_over_by-requires-clause-few g c κs within = c.requires.valid.plan.numbering.few

pub go_over_by-requires-clause-can : goal.go_over_by-requires-clause-can
go_over_by-requires-clause-can g c κs within =
    let fits : FitsLevels c.args.board.now c.args.plan.now c.args.from c.among.result =
    record { plan = c.requires.plan; valid = c.requires.valid; counters = c.requires.counters; few = c.requires.few; shares = c.among.ensures.are } in
    λ k d lt. (fits, c.requires.ready c.among.result.parts k d lt)

pub returns : goal.returns
returns g c =
    let fits : FitsLevels c.args.board.now c.args.plan.now c.args.from c.among.result =
    record { plan = c.requires.plan; valid = c.requires.valid; counters = c.requires.counters; few = c.requires.few; shares = c.among.ensures.are } in
    let parts = c.among.ensures.most in
    let threads = c.threads_for.ensures.most in
    record {
      settled = settling_stages _ _ _ c.among.result fits c.args.runners.now _ c.requires.some (omega (arith, parts, threads)) (c.requires.ready c.among.result.parts) c.go_over_by.auto.runners c.go_over_by.ensures.gone;
    }
