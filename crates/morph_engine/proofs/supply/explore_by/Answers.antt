use Rattle.std.proofs.Common.{sym, subst}
use Rattle.op_eval.specs.Gathering.{runners_of}
use Rattle.op_eval.specs.Exploring.{rules_on}
use Rattle.morph_engine.specs.Exploring.{explore_of, HasExploredBy}
use Rattle.morph_engine.proofs.Passing.{have_passed, named_few}
use Rattle.morph_engine.proofs.supply.explore_by.Goals as goal

pub returns-in-Counters-clause-way : goal.returns-in-Counters-clause-way
returns-in-Counters-clause-way g c =
    let e = c.explore-explored.result in
    subst (λ supply. HasExploredBy (explore_of supply) c.args.plan.now c.args.abort (runners_of c.args.runners) e 0 0) (sym c.in-Counters.is)
    (have_passed (rules_on c.args.board c.args.plan.now c.args.units.now.units c.args.abort) (runners_of c.args.runners) e c.explore-explored.ensures.passed)

pub returns-in-Counters-clause-next_counter : goal.returns-in-Counters-clause-next_counter
returns-in-Counters-clause-next_counter g c =
    let out = have_passed (rules_on c.args.board c.args.plan.now c.args.units.now.units c.args.abort) (runners_of c.args.runners) c.explore-explored.result c.explore-explored.ensures.passed in
    named_few c.args.plan.now c.args.abort c.explore-explored.result.next_counter out.list out.named
