use Rattle.std.proofs.Common.{sym, ap, ◌∙◌, subst, arith}
use Rattle.op_words.specs.Closing.{IsClosed}
use Rattle.op_words.specs.Hands.{plan_of, cap_of, counters_of}
use Rattle.op_eval.specs.declared.runner.Runner.{Runner}
use Rattle.op_eval.specs.Gathering.{runners_of}
use Rattle.abort_lazy.specs.Runs.{root_view}
use Rattle.morph_engine.proofs.Ending.{some_runner}
use Rattle.batch_tests.proofs.settled_runs.one_runner_settles_all_levels.Goals as goal

pub close-closed-requires-clause-all : goal.close-closed-requires-clause-all
close-closed-requires-clause-all g c = c.settle_all-settled.ensures.all c.in_ok-run.ensures.all

pub close-closed-requires-clause-places : goal.close-closed-requires-clause-places
close-closed-requires-clause-places g c = λ some. absurd (omega (arith, some))

pub close-closed-requires-clause-few : goal.close-closed-requires-clause-few
close-closed-requires-clause-few g c = λ some. absurd (omega (arith, some))

pub finish-settled-requires-clause-closed : goal.finish-settled-requires-clause-closed
finish-settled-requires-clause-closed g c =
    let b = c.settle_all-settled.result.board in
    let rs = runners_of c.settle_all-settled.result.runners in
    let d : Runner = some_runner rs c.settle_all-settled.ensures.run.rest.some in (
      cap_of b,
      counters_of b,
      root_view 0 d rs,
      subst (λ p. IsClosed p (cap_of b) (counters_of b) (root_view 0 d rs) c.close-closed.result.0) (ap plan_of c.settle_all-settled.ensures.board ∙ sym c.in_ok-run.ensures.plan)
          (c.close-closed.ensures.closed d),
    )
