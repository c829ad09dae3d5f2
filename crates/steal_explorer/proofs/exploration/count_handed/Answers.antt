use Rattle.std.proofs.Common.{◌≡◌, ◌∙◌, ap, arith}
use Rattle.std.specs.Prelude.{slice_index_or}
use Rattle.op_words.specs.Hands.{up_to}
use Rattle.steal_explorer.specs.declared.member.Member.{Member}
use Rattle.steal_explorer.proofs.Closing.{many_pushed, counted_more, counted_all}
use Rattle.steal_explorer.proofs.exploration.count_handed.Goals as goal

pub loop-k-preserved : goal.loop-k-preserved
loop-k-preserved c =
    let d : Member = c.index-members-k.result in
    let counts : c.handed_by.result ≡ up_to (many_pushed (slice_index_or c.args.members.now c.loop-k.k d)) =
    c.handed_by.ensures ∙ ap (λ (m : Member). m.handed) c.index-members-k.is ∙ c.requires c.loop-k.k d c.loop-k-test.true in
    counted_more many_pushed c.args.members.now c.loop-k.k _ _ c.handed_by.result d c.loop-k.invariant c.loop-k-test.true (omega (arith, counts)) c.saturating_add-total.ensures

pub returns : goal.returns
returns c = counted_all many_pushed _ _ _ c.loop-k.invariant c.loop-k-test.false
