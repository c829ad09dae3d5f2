use Rattle.std.proofs.Common.{◌≡◌, ◌<◌, true, length, map, take, get_or, sym, ◌∙◌, ap, arith}
use Rattle.std.proofs.lemmas.List.{length-map, length-take-le, get_or-map, get_or-take}
use Rattle.std.proofs.lemmas.List.Folds.{list_any_at}
use Rattle.morph_base.specs.declared.operation.Op.{Op}
use Rattle.morph_base.specs.Operations.{no_key, no_op, same_key}
use Rattle.morph_base.proofs.KeyLaws.{same_key-true, same_key-from}
use Rattle.morph_base.proofs.validity.has_target.Goals as goal

pub returns-then-eq : goal.returns-then-eq
returns-then-eq c =
    let ops = c.args.ops.now in
    let key = c.args.key in
    let first = take c.args.count ops in
    let inside : c.ops.i < length first = omega (arith, c.ops-test.true, c.requires, length-take-le c.args.count ops c.requires) in
    let same : same_key c.get.result.key key ≡ true = sym c.eq.ensures ∙ c.if-eq.true in
    let here : get_or (map (λ (op : Op). op.key) first) c.ops.i no_key ≡ key
    = get_or-map (λ (op : Op). op.key) first c.ops.i no_op no_key inside
    ∙ ap (λ (op : Op). op.key) (get_or-take c.args.count ops c.ops.i no_op c.ops-test.true ∙ sym c.get.ensures)
    ∙ same_key-true c.get.result.key key same in
    sym
    (list_any_at (same_key key) (map (λ (op : Op). op.key) first) c.ops.i no_key (omega (arith, inside, length-map first (λ (op : Op). op.key)))
    (same_key-from key (get_or (map (λ (op : Op). op.key) first) c.ops.i no_key) (sym here)))
