use Rattle.std.proofs.Common.{◌≡◌, List, map, ap, ◌∙◌, sym, subst, nat_eq}
use Rattle.std.specs.List.{IsDistinct}
use Rattle.std.proofs.lemmas.Bool.{eqb-true}
use Rattle.morph_base.specs.declared.batch.EventHead.{EventHead}
use Rattle.morph_base.specs.Transactions.{time, transaction_by, by_time}
use Rattle.morph_base.proofs.RunLaws.{run_none, run_more, run_is, run_sorted, ops_along}
use Rattle.morph_base.proofs.batch.Batch.is_rising.Goals as goal

pub loop-head-init : goal.loop-head-init
loop-head-init c = run_none c.args.self.now.ops c.as_slice-head-items.result.now

pub loop-head-preserved : goal.loop-head-preserved
loop-head-preserved c =
    run_more c.args.self.now.ops c.as_slice-head-items.result.now c.loop-head.head-index _ c.loop-head.end c.loop-head.latest c.loop-head-test.true
    c.loop-head.invariant c.if-head-end.false c.if-head-latest.false

pub returns-clause-ops : goal.returns-clause-ops
returns-clause-ops c = λ is.
    let ops = c.args.self.now.ops in
    run_is ops c.as_slice-head-items.result.now c.loop-head.head-index c.loop-head.end c.loop-head.latest c.loop-head-test.false c.loop-head.invariant
    (eqb-true _ _ is ∙ c.len.ensures)
    ∙ ap (λ hs. ops_along (map (transaction_by ops) hs)) c.as_slice-head-items.ensures

pub returns-clause-order : goal.returns-clause-order
returns-clause-order c = λ is.
    let ops = c.args.self.now.ops in
    let same = c.as_slice-head-items.ensures in
    subst (λ (hs : List EventHead). by_time (map (transaction_by ops) hs) ≡ map (transaction_by ops) hs) same
    (run_sorted ops c.as_slice-head-items.result.now c.loop-head.head-index c.loop-head.end c.loop-head.latest c.loop-head-test.false c.loop-head.invariant
    (subst (λ (hs : List EventHead). IsDistinct nat_eq (map time (map (transaction_by ops) hs))) (sym same) c.requires.times))
