use Rattle.std.proofs.Common.{◌∙◌, ap, arith, sym, subst}
use Rattle.morph_base.specs.Plans.{IsPlan, InEvent}
use Rattle.op_words.specs.declared.trail.View.{View}
use Rattle.abort_lazy.proofs.Ending.{in_range}
use Rattle.abort_lazy.proofs.run.level.await_event.Goals as goal

pub await_sources-requires : goal.await_sources-requires
await_sources-requires c =
    let keeps = c.loop-op.invariant in
    let inside : InEvent c.args.plan.now c.args.event c.loop-op.op = record { from = omega (arith, c.first_of-first.ensures, c.loop-op.auto.op); below = omega (arith, c.end_of-end.ensures) } in
    record { may = (keeps.0, c.requires.may.1, in_range _ _ _ (subst IsPlan (sym c.requires.may.1) c.requires.may.0.valid) c.requires.may.2 inside, ap (λ (v : View). v.claim) keeps.1 ∙ c.requires.may.3) }
