use Rattle.std.proofs.Common.{◌≡◌, ◌∙◌, ◌-◌, ◌++◌, ℕ, List, length, drop, replicate, ap}
use Rattle.std.proofs.lemmas.List.{drop-replicate}
use Rattle.morph_base.specs.declared.limits.TheConstants.{FIRST_MAX, PARAMS}
use Rattle.morph_base.specs.declared.key.Key.{Key}
use Rattle.morph_base.specs.declared.operation.Func.{Func}
use Rattle.morph_base.specs.declared.operation.Op.{Op}
use Rattle.morph_base.specs.Operations.{no_key}
use Rattle.morph_base.proofs.operation.Op.new.Goals as goal

-- blank places whose first ones are overwritten
filled : (params front : List Key) → front ≡ params →
    front ++ drop (length params) (replicate PARAMS no_key) ≡ params ++ replicate (PARAMS - length params) no_key
filled params front same =
    ap (λ l. l ++ drop (length params) (replicate PARAMS no_key)) same ∙ ap (λ l. params ++ l) (drop-replicate (length params) PARAMS no_key)

abbrev with_places : Func → Key → (n c : ℕ) → List Key → Op
with_places func key n c places = record { key = key; params = places; n_params = n; func = func; c = c; low = 0; high = FIRST_MAX }

pub returns-clause-parts : goal.returns-clause-parts
returns-clause-parts c =
    ap (with_places c.args.func c.args.key (length c.args.params.now) c.args.c)
    (filled c.args.params.now c.copy_from_slice.new.self c.copy_from_slice.ensures.after)
