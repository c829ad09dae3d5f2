use Rattle.std.proofs.Common.{◌≡◌, ℕ, List, map, ◌∙◌, ap, arith}
use Rattle.std.proofs.lemmas.Result.{IfOk-weaker}
use Rattle.morph_base.specs.declared.key.Key.{Key}
use Rattle.morph_base.specs.Plans.{op_count, target}
use Rattle.chain_units.specs.Chains.{chain_lists, with_op}
use Rattle.chain_units.specs.Units.{chain, targets_in_order}
use Rattle.chain_units.proofs.Chaining.{chains_below, chains_more, lists_of, chains_of}
use Rattle.chain_units.proofs.chains.chains.Goals as goal

pub loop-op-preserved : goal.loop-op-preserved
loop-op-preserved c =
    c.in_ok-append.ensures
    ∙ ap (λ (k : Key). with_op k c.loop-op.op (chain_lists c.loop-op.chains)) c.key.ensures
    ∙ ap (with_op (target c.args.plan.now c.loop-op.op) c.loop-op.op) c.loop-op.invariant
    ∙ chains_more c.args.plan.now c.loop-op.op

pub returns : goal.returns
returns c =
    let all : c.loop-op.op ≡ op_count c.args.plan.now = omega (arith, c.loop-op-test.false, c.loop-op.auto.op-end, c.len-op-end.ensures) in
    IfOk-weaker c.in_order.result _ _
    (λ units is.
    ap (map (λ unit. unit.items)) is ∙ lists_of c.loop-op.chains.entries
    ∙ ap (map (λ (e : Key × List ℕ). e.1)) (c.loop-op.invariant ∙ ap (chains_below c.args.plan.now) all) ∙ chains_of (chain c.args.plan.now) (targets_in_order c.args.plan.now))
    c.in_order.ensures
