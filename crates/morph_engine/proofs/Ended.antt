-- The end of a batch.
use Rattle.std.proofs.Common.{◌≡◌, ℕ, subst}
use Rattle.morph_base.specs.declared.plan.Plan.{Plan}
use Rattle.morph_base.specs.declared.strategy.Strategy.{Strategy}
use Rattle.morph_base.specs.States.{State}
use Rattle.morph_engine.specs.declared.engine.BatchEnd.{BatchEnd}
use Rattle.morph_engine.specs.Ends.{IsEnd}

-- by the workers that were prepared
pub end_by : {p : Plan} {strategy : Strategy} {s : State} {end : BatchEnd} {runners workers : ℕ} → runners ≡ workers → IsEnd p strategy runners s end → IsEnd p strategy workers s end
end_by {p} {strategy} {s} {end} many ran = subst (λ (n : ℕ). IsEnd p strategy n s end) many ran
