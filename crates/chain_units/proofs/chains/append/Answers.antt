use Rattle.std.proofs.Common.{ℕ, map, sym, ◌∙◌, ap}
use Rattle.std.specs.BTreeMap.{BTreeMap, insert_entry}
use Rattle.morph_base.specs.declared.key.Key.{Key}
use Rattle.morph_base.specs.Contents.{Contents}
use Rattle.chain_units.specs.Chains.{key_cmp}
use Rattle.chain_units.proofs.Chaining.{chain_of, grown, begun}
use Rattle.chain_units.proofs.chains.append.Goals as goal

pub returns-in_ok-push-in-Some : goal.returns-in_ok-push-in-Some
returns-in_ok-push-in-Some c =
    ap (map chain_of) (c.get_mut.follows.holds c.push.new.self).0
    ∙ grown c.args.key c.args.op c.args.chains.now.entries c.in-Some.chain.now c.push.new.self c.in-Some.ensures.ordered (sym c.in-Some.ensures.value)
    c.in_ok-push-in-Some.ensures.items

pub returns-in_ok-insert-in-None : goal.returns-in_ok-insert-in-None
returns-in_ok-insert-in-None c =
    ap (map chain_of)
    (c.in_ok-insert-in-None.ensures.entries
    ∙ ap (λ (m : BTreeMap Key (Contents ℕ)). insert_entry key_cmp m.entries c.args.key c.in_ok-from_slice-in-None.field-0) c.get_mut.follows.holds-at-none)
    ∙ begun c.args.key c.args.op c.args.chains.now.entries c.in_ok-from_slice-in-None.field-0 (sym c.in-None.ensures.value) c.in_ok-from_slice-in-None.ensures
