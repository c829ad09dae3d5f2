use Rattle.std.proofs.Common.{ℕ, map, arith, sym, subst}
use Rattle.std.proofs.lemmas.List.{length-map}
use Rattle.morph_base.specs.Contents.{Contents}
use Rattle.chain_units.specs.Places.{IsPartition}
use Rattle.chain_units.proofs.Entering.{all_entered}
use Rattle.chain_units.proofs.places.places.Goals as goal

pub returns-clause-indexed : goal.returns-clause-indexed
returns-clause-indexed c =
    all_entered _ c.loop-u.places.items c.loop-u.u c.requires.few
    (subst (IsPartition (map (λ (unit : Contents ℕ). unit.items) c.args.units.now.items)) (sym c.loop-u.invariant.len) c.requires.partition)
    (omega (arith, c.loop-u-test.false, c.len-u-end.ensures, length-map c.args.units.now.items (λ (unit : Contents ℕ). unit.items)))
    c.loop-u.invariant.entered
