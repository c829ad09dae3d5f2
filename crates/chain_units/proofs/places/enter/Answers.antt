use Rattle.std.proofs.Common.{◌+◌, ◌∙◌, ℕ, get_or, map, length, ap, sym, subst, arith}
use Rattle.std.proofs.lemmas.List.{length-map, length-set}
use Rattle.morph_base.specs.Contents.{Contents}
use Rattle.chain_units.specs.Places.{AreEntered}
use Rattle.chain_units.proofs.Entering.{one_entered, unit_entered, read_unit, unit_stands}
use Rattle.chain_units.proofs.places.enter.Goals as goal

pub overflow_cast-place : goal.overflow_cast-place
overflow_cast-place c =
    omega (arith, c.requires.unit, c.requires.few.unit_numbers, length-map c.args.units.now.items (λ (unit : Contents ℕ). unit.items))

pub overflow_cast-place-in-loop-i : goal.overflow_cast-place-in-loop-i
overflow_cast-place-in-loop-i c =
    let unit = read_unit c.args.units.now.items c.args.u c.get.result.now c.as_slice-ops.result.now c.requires.unit c.get.ensures.at c.as_slice-ops.ensures in
    omega (arith, c.loop-i-test.true, c.requires.few.places c.args.u, ap length unit)

pub set-requires : goal.set-requires
set-requires c =
    let unit = read_unit c.args.units.now.items c.args.u c.get.result.now c.as_slice-ops.result.now c.requires.unit c.get.ensures.at c.as_slice-ops.ensures in
    omega (
      arith,
      c.loop-i.invariant.len,
      c.requires.partition.inside c.args.u c.loop-i.i (get_or c.as_slice-ops.result.now c.loop-i.i 0)
          (unit_stands _ c.args.u c.loop-i.i c.as_slice-ops.result.now unit c.loop-i-test.true),
    )

pub loop-i-preserved : goal.loop-i-preserved
loop-i-preserved c =
    let unit = read_unit c.args.units.now.items c.args.u c.get.result.now c.as_slice-ops.result.now c.requires.unit c.get.ensures.at c.as_slice-ops.ensures in
    record {
      len = ap length c.set.ensures.items ∙ length-set c.loop-i.places.items _ _ ∙ c.loop-i.invariant.len;
      entered = subst (AreEntered (map (λ (unit : Contents ℕ). unit.items) c.args.units.now.items) c.args.u (c.loop-i.i + 1)) (sym c.set.ensures.items)
          (one_entered _ _ c.args.u c.loop-i.i c.loop-i.places.items c.as_slice-ops.result.now c.requires.partition (sym c.loop-i.invariant.len) unit c.loop-i-test.true
          c.loop-i.invariant.entered);
    }

pub returns-clause-entered : goal.returns-clause-entered
returns-clause-entered c =
    let unit = read_unit c.args.units.now.items c.args.u c.get.result.now c.as_slice-ops.result.now c.requires.unit c.get.ensures.at c.as_slice-ops.ensures in
    unit_entered _ c.args.u c.loop-i.i c.loop-i.places.items (omega (arith, c.loop-i-test.false, ap length unit)) c.loop-i.invariant.entered
