use Rattle.std.proofs.Common.{arith, subst, sym, ◌∙◌, ◌≡◌, ◌<◌}
use Rattle.abort_eager.specs.Finding.{IsFirstReader}
use Rattle.abort_eager.proofs.Searching.{many_lists, readers_are, readers_rise, one_more}
use Rattle.abort_eager.proofs.search.reader_from.Goals as goal

pub row-requires : goal.row-requires
row-requires c = subst (λ n. c.loop-op.op < n) (sym (many_lists c.args.plan.now _ c.requires.dependents)) (omega (arith, c.loop-op-test.true, c.requires.end))

pub first_at-requires : goal.first_at-requires
first_at-requires c =
    let is = c.row.ensures ∙ readers_are c.args.plan.now _ c.requires.dependents c.loop-op.op (omega (arith, c.loop-op-test.true, c.requires.end)) in
    record { rising = readers_rise c.args.plan.now c.loop-op.op _ is }

pub loop-op-preserved : goal.loop-op-preserved
loop-op-preserved c =
    let is = c.row.ensures ∙ readers_are c.args.plan.now _ c.requires.dependents c.loop-op.op (omega (arith, c.loop-op-test.true, c.requires.end)) in
    one_more c.args.plan.now _ _ _ c.loop-op.auto.op _ is _ _ _ c.loop-op.invariant c.first_at.ensures.first c.lesser-least.ensures

pub returns : goal.returns
returns c =
    let same : c.loop-op.op ≡ c.args.end = omega (arith, c.loop-op-test.false, c.loop-op.auto.op-end c.requires.first) in
    subst (λ k. IsFirstReader c.args.plan.now c.args.first k c.args.from c.loop-op.least) same c.loop-op.invariant
