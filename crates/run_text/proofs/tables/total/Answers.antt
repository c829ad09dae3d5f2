use Rattle.std.proofs.Common.{◌≡◌, ◌<◌, ap, arith}
use Rattle.morph_base.specs.declared.key.Layout.{Layout}
use Rattle.morph_base.specs.Flat.{contents}
use Rattle.version_table.proofs.Summing.{total-more, total-all}
use Rattle.run_text.proofs.tables.total.Goals as goal

pub loop-id-preserved : goal.loop-id-preserved
loop-id-preserved c =
    let n = c.args.values.now.layout.size in
    let lt : c.loop-id.id < n = omega (arith, ap (λ (l : Layout). l.size) c.layout-id-end.ensures.layout) in
    record {
      sum = total-more (contents c.args.values.now) c.args.table n c.loop-id.id c.get-total.result c.loop-id.total lt c.get-total.ensures.value c.loop-id.invariant.sum;
      small = omega (arith, c.loop-id.invariant.small, c.get-total.ensures.small);
    }

pub returns : goal.returns
returns c =
    let n = c.args.values.now.layout.size in
    let all : c.loop-id.id ≡ n = omega (arith, ap (λ (l : Layout). l.size) c.layout-id-end.ensures.layout) in
    total-all (contents c.args.values.now) c.args.table n c.loop-id.id c.loop-id.total all c.loop-id.invariant.sum
