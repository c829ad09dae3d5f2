use Rattle.std.proofs.Common.{◌≡◌, arith}
use Rattle.morph_base.specs.Flat.{state_in}
use Rattle.morph_base.proofs.FlatLaws.{state_in-small}
use Rattle.version_table.proofs.Summing.{total-more, total-all}
use Rattle.snapshot_reader.proofs.sum.sum.Goals as goal

pub overflow_add-total : goal.overflow_add-total
overflow_add-total c =
    let small = state_in-small c.args.balances.now.layout c.args.balances.now.values.items c.requires.kept (record { table = c.args.table; id = c.loop-id.id }) in
    omega (arith, c.loop-id.invariant.small, c.get-total.ensures, small, c.loop-id-test.true, c.requires.few)

pub loop-id-preserved : goal.loop-id-preserved
loop-id-preserved c =
    let small = state_in-small c.args.balances.now.layout c.args.balances.now.values.items c.requires.kept (record { table = c.args.table; id = c.loop-id.id }) in
    record {
      sum = total-more (state_in c.args.balances.now.layout c.args.balances.now.values.items) c.args.table c.args.size c.loop-id.id c.get-total.result c.loop-id.total c.loop-id-test.true c.get-total.ensures c.loop-id.invariant.sum;
      small = omega (arith, c.loop-id.invariant.small, c.get-total.ensures, small);
    }

pub returns : goal.returns
returns c =
    let all : c.loop-id.id ≡ c.args.size = omega (arith, c.loop-id-test.false, c.loop-id.auto.id-end) in
    total-all (state_in c.args.balances.now.layout c.args.balances.now.values.items) c.args.table c.args.size c.loop-id.id c.loop-id.total all c.loop-id.invariant.sum
