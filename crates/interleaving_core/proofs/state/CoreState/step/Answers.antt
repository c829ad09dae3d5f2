use Rattle.std.proofs.Common.{sym, subst}
use Rattle.interleaving_core.specs.Soundness.{IsSound}
use Rattle.interleaving_core.specs.Stored.{core_of}
use Rattle.interleaving_core.proofs.Machine.{step_keeps}
use Rattle.interleaving_core.proofs.Storing.{state_again}
use Rattle.interleaving_core.proofs.state.CoreState.step.Goals as goal

pub returns-clause-state : goal.returns-clause-state
returns-clause-state c =
    let p = c.args.plan.now in
    let s = c.args.self.now in
    state_again p s c.make.new.self c.requires.state c.make.ensures.shape
    (subst (IsSound p s.cap) (sym c.make.ensures.core)
    (step_keeps p s.cap c.requires.plan c.requires.state.small_cap (core_of s) c.requires.state.sound c.args.event.now (c.may.ensures.0 c.if-not-may.false)))
