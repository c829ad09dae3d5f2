use Rattle.std.proofs.Common.{◌<◌, ◌^◌, ap, sym, subst, ◌∙◌}
use Rattle.std.specs.Prelude.{All}
use Rattle.op_words.specs.Hands.{plan_of, counters_of}
use Rattle.op_eval.specs.Gathering.{runners_of}
use Rattle.op_eval.specs.Lending.{with_runners}
use Rattle.abort_lazy.specs.Runs.{AreSettling, AreAllHands, IsSettledByRoot, IsSettling}
use Rattle.abort_lazy.proofs.Concluding.{settling_begins, given_back, all_back, settled_back, alone_back}
use Rattle.abort_lazy.proofs.run.settle_all.Goals as goal

pub settle_levels-requires-clause-ready : goal.settle_levels-requires-clause-ready
settle_levels-requires-clause-ready g c κs within =
    λ parts.
    subst (λ rs. All (λ r. IsSettling c.parts-board.result.0 c.args.plan.now c.parts-board.result.3 parts 0 r r) rs) (sym c.as_mut_slice.ensures.items)
    (settling_begins c.parts-board.result.0 c.args.plan.now c.parts-board.result.3 c.parts-board.result.1 (c.requires.plan ∙ ap (λ r. plan_of r.0) (sym c.parts-board.ensures.parts)) c.parts-board.ensures.explored
    parts)

pub settle_levels-requires-clause-few : goal.settle_levels-requires-clause-few
settle_levels-requires-clause-few g c κs within = subst (λ r. counters_of r.0 < 2 ^ 32) (sym c.parts-board.ensures.parts) c.requires.few

pub returns-clause-run : goal.returns-clause-run
returns-clause-run g c =
    let both = given_back c.parts-board.result.0 c.args.plan.now c.parts-board.result.3 c.parts-board.result.1 c.as_mut_slice.result.now c.settle_levels.new.runners c.as_mut_slice.ensures.items c.settle_levels.ensures.settled c.parts-board.ensures.explored in
    record { places = both.0; rest = both.1 }

pub returns-clause-all : goal.returns-clause-all
returns-clause-all g c = λ all.
    all_back c.parts-board.result.0 c.args.plan.now c.parts-board.result.3 c.parts-board.result.1 c.as_mut_slice.result.now c.settle_levels.new.runners c.as_mut_slice.ensures.items c.settle_levels.ensures.settled c.parts-board.ensures.explored
    (subst (λ r. AreAllHands (runners_of r.1)) (sym c.parts-board.ensures.parts) all)

pub returns-clause-settled : goal.returns-clause-settled
returns-clause-settled g c =
    subst (λ r. AreSettling r.0 c.args.plan.now r.3 (runners_of r.1) (runners_of (with_runners c.parts-board.result.1 c.settle_levels.new.runners))) c.parts-board.ensures.parts
    (settled_back c.parts-board.result.0 c.args.plan.now c.parts-board.result.3 c.parts-board.result.1 c.as_mut_slice.result.now c.settle_levels.new.runners c.as_mut_slice.ensures.items c.settle_levels.ensures.settled)

pub returns-clause-alone : goal.returns-clause-alone
returns-clause-alone g c =
    subst (λ r. IsSettledByRoot c.args.plan.now (runners_of r.1) (runners_of (with_runners c.parts-board.result.1 c.settle_levels.new.runners))) c.parts-board.ensures.parts
    (alone_back c.parts-board.result.0 c.args.plan.now c.parts-board.result.3 c.parts-board.result.1 c.as_mut_slice.result.now c.settle_levels.new.runners c.as_mut_slice.ensures.items c.requires.valid c.parts-board.ensures.explored c.settle_levels.ensures.settled)
