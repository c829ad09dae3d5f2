-- The units of a plan
use Rattle.std.specs.Prelude.{ℕ, List, [], ◌∷◌, map, filter}
use Rattle.morph_base.specs.declared.key.Key.{Key}
use Rattle.morph_base.specs.declared.plan.Plan.{Plan}
use Rattle.morph_base.specs.declared.strategy.Unit.{Unit as UnitKind}
use Rattle.morph_base.specs.declared.strategy.Unit.TheVariants.{Op, Chain}
use Rattle.morph_base.specs.Operations.{same_key}
use Rattle.morph_base.specs.Plans.{op_count, target}
use Rattle.morph_base.specs.Graphs.{below}
use Rattle.chain_units.specs.Chains.{ordered}

module _ (p : Plan) where
  -- Of the first n operations, those that change the key, by rising number
  abbrev pub chain_below : (n : ℕ) → Key → List ℕ
  chain_below n key = filter (λ o. same_key key (target p o)) (below n)

  -- The chain of the key: all operations that change it, by rising number
  abbrev pub chain : Key → List ℕ
  chain = chain_below (op_count p)

  -- The keys that the first n operations change, each once, in the order of keys
  abbrev pub targets_below : (n : ℕ) → List Key
  targets_below n = ordered (map (target p) (below n))

  -- The keys that operations change, each once, in the order of keys
  abbrev pub targets_in_order : List Key
  targets_in_order = targets_below (op_count p)

-- The operations of each unit: every operation alone, or the chain of each key that an operation changes, in the order
-- of keys
abbrev pub units_of : Plan → UnitKind → List (List ℕ)
units_of p Op = map (λ o. o ∷ []) (below (op_count p))
units_of p Chain = map (chain p) (targets_in_order p)
