use Rattle.std.proofs.Common.{length, sym, subst, arith}
use Rattle.std.specs.Prelude.{slice_index_or}
use Rattle.op_words.specs.Hands.{cap_of}
use Rattle.op_eval.specs.Turns.{IsEnough}
use Rattle.strata_explorer.specs.Passes.{course_rules, FitsPass, IsPassed}
use Rattle.strata_explorer.specs.Levels.{ops_of}
use Rattle.strata_explorer.proofs.Between.{passed_between}
use Rattle.strata_explorer.proofs.Climbing.{level_is}
use Rattle.strata_explorer.proofs.Counting.{follows_from}
use Rattle.strata_explorer.proofs.Leveling.{levels_of, small_levels, some_op}
use Rattle.strata_explorer.proofs.passes.pass_once.Goals as goal

pub pass_by-requires-clause-fits : goal.pass_by-requires-clause-fits
pass_by-requires-clause-fits g c κs within =
    subst (FitsPass c.args.course.now.plan.now)
    (sym (level_is c.args.course.now.plan.now c.args.level c.requires.level _ c.get.ensures.at _ c.as_slice.ensures)) ((levels_of c.args.course.now.plan.now c.requires.valid).fits c.args.level)

pub next_level-requires-clause-small : goal.next_level-requires-clause-small
next_level-requires-clause-small g c = omega (arith, c.requires.level, small_levels c.args.course.now.plan.now c.requires.valid)

pub returns-clause-passed : goal.returns-clause-passed
returns-clause-passed g c =
    let p = c.args.course.now.plan.now in
    let rules = course_rules c.args.board.now c.args.course.now in
    let is = level_is p c.args.level c.requires.level _ c.get.ensures.at _ c.as_slice.ensures in
    passed_between rules c.args.counter (ops_of p c.args.level) c.args.runners.now c.empty_level.new.runners c.pass_by.new.runners c.next_level.new.runners c.empty_level.ensures.like c.next_level.ensures.like
    (some_op p c.requires.valid c.args.level c.requires.level) c.requires.some (λ d. c.requires.unused 0 d c.requires.some)
    (subst (λ cap. IsPassed (record rules { cap = cap }) c.args.counter (ops_of p c.args.level) c.empty_level.new.runners c.pass_by.new.runners) c.empty_level.ensures.cap
    (subst (λ ops. IsPassed (record rules { cap = cap_of c.empty_level.new.board }) c.args.counter ops c.empty_level.new.runners c.pass_by.new.runners) is c.pass_by.ensures.passed))
    (λ d. subst (λ ops. IsEnough c.args.counter (length ops) (slice_index_or c.pass_by.new.runners 0 d)) is (c.pass_by.ensures.first d))

pub returns-clause-next : goal.returns-clause-next
returns-clause-next g c =
    follows_from (course_rules c.args.board.now c.args.course.now) c.args.level c.next_level.result c.args.runners.now c.empty_level.new.runners c.pass_by.new.runners c.next_level.new.runners c.empty_level.ensures.like c.next_level.ensures.like
    c.has_risen-risen.result c.count_rolled-rolled.result (c.count_rolled-rolled.ensures c.empty_level.new.board c.empty_level.ensures.seated) (λ _. c.requires.eager)
    (λ risen. c.has_risen-risen.ensures risen c.empty_level.new.board c.pass_by.ensures.seated) c.next_level.ensures.most c.next_level.ensures.above
