use Rattle.std.proofs.Common.{arith}
use Rattle.steal_explorer.proofs.Queueing.{not_pushed}
use Rattle.steal_explorer.proofs.serve.serve_known.Goals as goal

pub returns-else-op-len-clause-alone : goal.returns-else-op-len-clause-alone
returns-else-op-len-clause-alone g c = λ lazy some is. record {
  handing = is;
  ran = λ there. absurd (not_pushed c.args.ground.now.plan.now c.args.op c.args.member.now c.requires.can.1 (omega (arith, c.if-op-len.false, c.len.ensures)) there);
}
