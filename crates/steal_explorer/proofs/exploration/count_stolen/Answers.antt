use Rattle.std.proofs.Common.{◌∙◌, ap}
use Rattle.op_words.specs.Hands.{up_to}
use Rattle.steal_explorer.specs.declared.member.Member.{Member}
use Rattle.steal_explorer.proofs.Closing.{many_stolen, counted_more, counted_all}
use Rattle.steal_explorer.proofs.exploration.count_stolen.Goals as goal

pub loop-k-preserved : goal.loop-k-preserved
loop-k-preserved c =
    let d : Member = c.index-members-k.result in
    counted_more many_stolen c.args.members.now c.loop-k.k _ _ c.stolen_by.result d c.loop-k.invariant c.loop-k-test.true
    (ap up_to (c.stolen_by.ensures ∙ ap (λ (m : Member). m.stolen) c.index-members-k.is)) c.saturating_add-total.ensures

pub returns : goal.returns
returns c = counted_all many_stolen _ _ _ c.loop-k.invariant c.loop-k-test.false
