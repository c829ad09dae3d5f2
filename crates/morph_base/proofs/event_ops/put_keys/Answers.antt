use Rattle.std.proofs.Common.{◌≡◌, ℕ, suc, ◌+◌, ◌-◌, List, [], ◌∷◌, ◌++◌, length, set, take, append_assoc, ap, ◌∙◌, arith}
use Rattle.std.proofs.lemmas.List.{length-set, length-take-le, take_more_set}
use Rattle.std.proofs.lemmas.Slice.{take-put_mid}
use Rattle.morph_base.specs.declared.key.Key.{Key}
use Rattle.morph_base.proofs.event_ops.put_keys.Goals as goal

pub returns-clause-row : goal.returns-clause-row
returns-clause-row c =
    let keys : List Key = c.args.keys.now in
    let params : List Key = c.args.params.now in
    let used : ℕ = c.args.used in
    let width : ℕ = c.args.width in
    let copied : List Key = c.copy_from_slice.new.self in
    let now : List Key = set keys used c.args.key in
    let after : copied ≡ take (width - 1) params = c.copy_from_slice.ensures.after in
    let count : length copied ≡ width - 1
    = ap length after ∙ length-take-le (width - 1) params (omega (arith, c.requires.few, c.told-params)) in
    let whole : suc (width - 1) ≡ width = omega (arith, c.requires.some) in
    take-put_mid (used + 1) (used + width - (used + 1)) now copied (used + width)
    (omega (arith, count, c.requires.some))
    (omega (arith, length-set keys used c.args.key, c.told-keys, c.requires.room, c.requires.some))
    ∙ ap (λ (l : List Key). l ++ copied) (take_more_set keys used c.args.key
    (omega (arith, c.told-keys, c.requires.room, c.requires.some)))
    ∙ append_assoc (take used keys) (c.args.key ∷ []) copied
    ∙ ap (λ (l : List Key). take used keys ++ c.args.key ∷ l) after
    ∙ ap (λ (n : ℕ). take used keys ++ take n (c.args.key ∷ params)) whole
