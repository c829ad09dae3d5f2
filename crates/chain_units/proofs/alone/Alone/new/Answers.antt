use Rattle.std.proofs.Common.{◌++◌, ◌∷◌, [], ◌∙◌, List, ℕ, ap, length, sym, arith}
use Rattle.std.proofs.lemmas.List.FromFn.{length-range_with_len}
use Rattle.morph_base.specs.Graphs.{below}
use Rattle.morph_base.proofs.LevelLaws.{below_more}
use Rattle.chain_units.proofs.alone.Alone.new.Goals as goal

pub add-requires : goal.add-requires
add-requires c = omega (arith, c.loop-op.invariant.room, c.loop-op-test.true)

pub loop-op-preserved : goal.loop-op-preserved
loop-op-preserved c = record {
  items = c.add.ensures.items ∙ ap (λ (xs : List ℕ). xs ++ c.loop-op.op ∷ []) c.loop-op.invariant.items ∙ sym (below_more c.loop-op.op);
  room = omega (arith, c.add.ensures.room, c.loop-op.invariant.room);
}

pub invariant_of-result : goal.invariant_of-result
invariant_of-result c =
    let many = ap length c.loop-op.invariant.items ∙ length-range_with_len 0 c.loop-op.op in
    (c.loop-op.invariant.items ∙ ap below (sym many), omega (arith, many, c.loop-op.auto.op-end, c.requires))

pub returns : goal.returns
returns c =
    let many = ap length c.loop-op.invariant.items ∙ length-range_with_len 0 c.loop-op.op in
    omega (arith, many, c.loop-op.auto.op-end, c.loop-op-test.false)
