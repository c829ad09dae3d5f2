use Rattle.std.proofs.Common.{sym, subst, zero-le}
use Rattle.morph_base.specs.declared.key.Layout.{Layout}
use Rattle.morph_base.specs.declared.plan.Plan.{Plan}
use Rattle.morph_base.specs.Flat.{contents}
use Rattle.morph_base.specs.Plans.{PlanKeysIn, high_of}
use Rattle.morph_base.specs.States.{IsUpTo}
use Rattle.morph_base.proofs.FillLaws.{keys_in-filled}
use Rattle.batch_tests.proofs.states.settle_in.Goals as goal

-- a new state has no value above 0
pub bases-requires-clause-small : goal.bases-requires-clause-small
bases-requires-clause-small g c = subst (IsUpTo (high_of c.in_ok-plan.plan)) (sym c.requires.opening) (λ key. zero-le)

-- filling in the bases leaves the keys as they are
pub apply-requires-clause-keys : goal.apply-requires-clause-keys
apply-requires-clause-keys g c =
    let layout : Layout = c.args.state.now.layout in
    subst (λ (p : Plan). PlanKeysIn p layout) (sym c.bases.ensures.filled)
    (keys_in-filled (contents c.args.state.now) c.in_ok-plan.plan layout (subst (PlanKeysIn c.in_ok-plan.plan) (sym c.requires.layout) c.in_ok-plan.ensures.keys))
