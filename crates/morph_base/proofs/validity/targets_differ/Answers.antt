use Rattle.std.proofs.Common.{◌≡◌, ◌<◌, true, false, length, take, map, get_or, sym, ap, ◌∙◌, arith}
use Rattle.std.specs.List.{list_any}
use Rattle.std.proofs.lemmas.Bool.{false≢true}
use Rattle.morph_base.specs.declared.operation.Op.{Op}
use Rattle.morph_base.specs.Operations.{no_op, same_key}
use Rattle.morph_base.proofs.ValidLemmas.{distinct_none, distinct_more, distinct_not, same_key_equiv}
use Rattle.morph_base.proofs.validity.targets_differ.Goals as goal

pub ops-init : goal.ops-init
ops-init c = distinct_none same_key

pub returns-then-has_target : goal.returns-then-has_target
returns-then-has_target c =
    let ops = c.args.ops.now in
    let i = c.ops.i in
    let inside : i < length ops = omega (arith, c.ops-test.true, c.len-i-end.ensures) in
    let found : list_any (same_key (get_or ops i no_op).key) (map (λ op. op.key) (take i ops)) ≡ true
    = ap (λ (op : Op). list_any (same_key op.key) (map (λ op. op.key) (take i ops))) (sym c.get.ensures) ∙ sym c.if-has_target.ensures in
    ((λ yes. absurd (false≢true yes)), λ apart. absurd (distinct_not same_key same_key_equiv (λ op. op.key) ops i no_op inside found apart))

pub ops-preserved : goal.ops-preserved
ops-preserved c =
    let ops = c.args.ops.now in
    let i = c.ops.i in
    let inside : i < length ops = omega (arith, c.ops-test.true, c.len-i-end.ensures) in
    let new : list_any (same_key (get_or ops i no_op).key) (map (λ op. op.key) (take i ops)) ≡ false
    = ap (λ (op : Op). list_any (same_key op.key) (map (λ op. op.key) (take i ops))) (sym c.get.ensures) ∙ sym c.if-has_target.ensures in
    distinct_more same_key same_key_equiv (λ op. op.key) ops i no_op inside c.ops.invariant new
