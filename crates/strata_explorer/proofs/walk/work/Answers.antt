use Rattle.std.proofs.Common.{◌+◌, sym, ◌∙◌, subst}
use Rattle.abort_eager.specs.Grounds.{ground_rules}
use Rattle.strata_explorer.specs.Passes.{IsWorking}
use Rattle.strata_explorer.proofs.Bursting.{working_none, walks_none, burst_ended, burst_more, walks_more, takes_claim}
use Rattle.strata_explorer.proofs.walk.work.Goals as goal

pub walk_burst-requires-clause-seated : goal.walk_burst-requires-clause-seated
walk_burst-requires-clause-seated g c = record {
  hand = c.take_burst-burst.ensures.hand;
  free = takes_claim _ _ _ _ c.take_burst-burst.ensures.burst.takes ∙ c.loop-turn.invariant.0.free;
}

pub returns-then-is_over-clause-calls : goal.returns-then-is_over-clause-calls
returns-then-is_over-clause-calls g c =
    (burst_ended _ _ _ _ _ _ _ _ _ c.take_burst-burst.ensures.burst c.walk_burst.ensures.walks c.loop-turn.invariant.1.worked (sym c.is_over.ensures ∙ c.if-is_over.true)).0

pub returns-then-is_over-clause-enough : goal.returns-then-is_over-clause-enough
returns-then-is_over-clause-enough g c =
    (burst_ended _ _ _ _ _ _ _ _ _ c.take_burst-burst.ensures.burst c.walk_burst.ensures.walks c.loop-turn.invariant.1.worked (sym c.is_over.ensures ∙ c.if-is_over.true)).1

pub returns-then-is_over-clause-walks : goal.returns-then-is_over-clause-walks
returns-then-is_over-clause-walks g c =
    walks_more _ _ _ _ _ _ _ _ _ c.take_burst-burst.ensures.burst c.walk_burst.ensures.walks c.requires.some c.requires.most c.loop-turn.invariant.2

pub loop-turn-init : goal.loop-turn-init
loop-turn-init g c = (c.requires.seated, working_none _ _ _ _ c.requires.unused, walks_none _ _ _ _)

pub loop-turn-preserved : goal.loop-turn-preserved
loop-turn-preserved g c =
    let rules = ground_rules c.args.ground.now in
    let going = sym c.is_over.ensures ∙ c.if-is_over.false in
    let now = c.walk_burst.new.runner in (
      c.walk_burst.ensures.seated,
      subst (λ n. IsWorking rules c.args.counter c.args.ops.now (c.loop-turn.turn + n) c.args.runner.now now) (sym c.len-turn.ensures)
          (burst_more _ _ _ _ _ _ _ _ _ c.take_burst-burst.ensures.burst c.walk_burst.ensures.walks c.loop-turn.turn c.loop-turn.invariant.1 going),
      walks_more _ _ _ _ _ _ _ _ _ c.take_burst-burst.ensures.burst c.walk_burst.ensures.walks c.requires.some c.requires.most c.loop-turn.invariant.2,
    )
