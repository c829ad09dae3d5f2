use Rattle.std.proofs.Common.{◌≤◌, sym, subst}
use Rattle.std.specs.Prelude.{All}
use Rattle.morph_base.specs.declared.limits.TheConstants.{MAX}
use Rattle.interleaving_core.proofs.Storing.{fetched_small}
use Rattle.interleaving_core.proofs.state.CoreState.end.Goals as goal

pub evaluate-requires-clause-values : goal.evaluate-requires-clause-values
evaluate-requires-clause-values c =
    subst (All (λ x. x ≤ MAX)) (sym c.held-claim.ensures.values) (fetched_small c.args.plan.now c.args.self.now c.args.by c.requires.plan c.requires.state)
