use Rattle.std.proofs.Common.{refl, subst, ◌∙◌, [], ◌∷◌, arith}
use Rattle.strata_explorer.specs.Levels.{ops_of, FollowsPass}
use Rattle.strata_explorer.specs.Passes.{course_rules, IsPassed}
use Rattle.strata_explorer.proofs.Ascending.{climbing_none, climbing_more, ends_whole}
use Rattle.strata_explorer.proofs.passes.pass_in_turn.Goals as goal

pub loop-level-init : goal.loop-level-init
loop-level-init g c = (c.requires.seated, refl, refl, refl, omega arith, climbing_none _ c.args.runners.now c.requires.ready)

pub loop-level-preserved : goal.loop-level-preserved
loop-level-preserved g c =
    let is = c.loop-level.invariant in
    let pass = c.pass_once-level.ensures in
    let p = c.args.course.now.plan.now in
    let rules = course_rules c.args.board.now c.args.course.now in
    let level = c.loop-level.level in
    let counter = c.loop-level.passes in
    let rs = c.loop-level.runners in
    let qs = c.pass_once-level.new.runners in (
      pass.seated,
      pass.plan ∙ is.1,
      pass.cap ∙ is.2,
      pass.counters ∙ is.3,
      omega (arith, c.if-passes-most.true, c.counters-most.ensures),
      climbing_more rules level counter c.pass_once-level.result c.args.runners.now rs qs is.5 (omega (arith, c.loop-level-test.true, c.len-levels.ensures))
          (subst (λ cap. IsPassed (record rules { cap = cap }) counter (ops_of p level) rs qs) is.2 pass.passed)
          (subst (λ cap. FollowsPass (record rules { cap = cap }) c.pass_once-level.result (level ∷ []) rs qs) is.2 pass.next),
    )

pub returns-else-level-levels-clause-passed : goal.returns-else-level-levels-clause-passed
returns-else-level-levels-clause-passed g c =
    let is = c.loop-level.invariant in
    ends_whole _ c.loop-level.level c.loop-level.passes c.args.runners.now c.loop-level.runners is.5 is.4 (omega (arith, c.if-level-levels.false, c.len-levels.ensures))
