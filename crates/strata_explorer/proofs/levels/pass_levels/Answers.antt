use Rattle.std.proofs.Common.{◌*◌, ap, length, sym, subst, arith}
use Rattle.op_eval.specs.declared.explored.RunEnd.TheVariants.{Whole}
use Rattle.worker_gate.proofs.Ordering.{counters_fit}
use Rattle.strata_explorer.specs.Passes.{course_rules}
use Rattle.strata_explorer.specs.Outcomes.{HaveGoneOver}
use Rattle.strata_explorer.proofs.Leveling.{levels_of, small_levels}
use Rattle.strata_explorer.proofs.Outcomes.{all_alone, apart, gone_further, gone_over}
use Rattle.strata_explorer.proofs.levels.pass_levels.Goals as goal

pub run_all-requires-after_bounds : goal.run_all-requires-after_bounds
run_all-requires-after_bounds g c κs within =
    λ k d lt. (
      record { plan = c.requires.plan; valid = c.requires.valid; units = c.requires.units; number = c.requires.number; dependents = λ eager. absurd (apart c.args.course.now.abort c.requires.lazy eager) },
      c.among-shares.ensures.are,
      c.requires.counters,
      c.requires.seated k d lt,
      λ n. (c.requires.ready.each k d lt).unused n (omega arith),
    )

-- the counters of all parts
pub overflow_mul-counters : goal.overflow_mul-counters
overflow_mul-counters g c =
    let p = c.args.course.now.plan.now in
    omega (arith, ap (λ n. n * c.among-shares.result.parts) c.len.ensures, small_levels p c.requires.valid, counters_fit c.among-shares.result.parts (length p.op_levels.items) c.among-shares.ensures.are.few)

pub overflow_cast-result : goal.overflow_cast-result
overflow_cast-result g c =
    let p = c.args.course.now.plan.now in
    omega (arith, ap (λ n. n * c.among-shares.result.parts) c.len.ensures, small_levels p c.requires.valid, counters_fit c.among-shares.result.parts (length p.op_levels.items) c.among-shares.ensures.are.few)

pub returns-clause-hands : goal.returns-clause-hands
returns-clause-hands g c = gone_further (course_rules c.args.board.now c.args.course.now) c.among-shares.result c.among-shares.ensures.are c.args.runners.now c.run_all.new.workers c.run_all.auto.workers (λ k d lt. (c.run_all.ensures k d lt).1)

pub returns-clause-passed : goal.returns-clause-passed
returns-clause-passed g c =
    let rules = course_rules c.args.board.now c.args.course.now in
    let shares = c.among-shares.result in
    subst (λ n. HaveGoneOver rules c.args.runners.now c.run_all.new.workers Whole (n * shares.parts)) (sym c.len.ensures)
    (gone_over rules shares c.among-shares.ensures.are c.args.runners.now c.run_all.new.workers c.run_all.auto.workers (λ k d lt. (c.run_all.ensures k d lt).1)
    (omega (arith, c.among-shares.ensures.most, c.threads_for.ensures.some, c.threads_for.ensures.most)) c.requires.ready c.requires.some)

pub returns-clause-alone : goal.returns-clause-alone
returns-clause-alone g c =
    let p = c.args.course.now.plan.now in
    let shares = c.among-shares.result in
    λ some.
    all_alone (course_rules c.args.board.now c.args.course.now) shares c.among-shares.ensures.are c.args.runners.now c.run_all.new.workers c.run_all.auto.workers (λ k d lt. (c.run_all.ensures k d lt).1)
    c.requires.lazy c.requires.valid.plan some (levels_of p c.requires.valid) (omega (arith, c.among-shares.ensures.most, c.threads_for.ensures.some, c.threads_for.ensures.most)) c.requires.ready c.requires.some
