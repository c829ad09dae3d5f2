use Rattle.std.proofs.Common.{subst}
use Rattle.op_words.specs.Hands.{view_of}
use Rattle.abort_lazy.specs.Progress.{SaysSo}
use Rattle.abort_lazy.proofs.Ending.{concluded}
use Rattle.abort_lazy.proofs.transaction.decide.decide.Goals as goal

pub conclude-requires-clause-grounds : goal.conclude-requires-clause-grounds
conclude-requires-clause-grounds c = subst (SaysSo c.args.plan.now c.args.event (view_of c.args.hand.now)) c.in-Commit.is c.requires.grounds

pub conclude-requires-in-Abort-clause-grounds : goal.conclude-requires-in-Abort-clause-grounds
conclude-requires-in-Abort-clause-grounds c = subst (SaysSo c.args.plan.now c.args.event (view_of c.args.hand.now)) c.in-Abort.is c.requires.grounds

pub returns-in-Commit-clause-decided : goal.returns-in-Commit-clause-decided
returns-in-Commit-clause-decided c = concluded _ _ c.conclude.ensures.answer

pub returns-in-Abort-clause-decided : goal.returns-in-Abort-clause-decided
returns-in-Abort-clause-decided c = concluded _ _ c.conclude-in-Abort.ensures.answer
