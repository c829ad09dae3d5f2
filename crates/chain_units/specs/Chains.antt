-- Keys in their order, and chains of operations by key
use Rattle.std.specs.Prelude.{ℕ, List, [], ◌∷◌, ◌++◌, map, fold}
use Rattle.std.specs.Ordering.{match_ordering, nat_cmp, ordering_then}
use Rattle.std.specs.declared.cmp.Ordering.{Ordering}
use Rattle.std.specs.BTreeMap.{BTreeMap}
use Rattle.morph_base.specs.Contents.{Contents}
use Rattle.morph_base.specs.declared.key.Key.{Key}

-- The order of keys: by table, then by id
abbrev pub key_cmp : Key → Key → Ordering
key_cmp a b = ordering_then (nat_cmp a.table b.table) (nat_cmp a.id b.id)

-- The keys in order, with this key put in its place, where it may be already
unfoldable pub in_place : Key → List Key → List Key
in_place key [] = key ∷ []
in_place key (k ∷ ks) = match_ordering (key_cmp key k) (key ∷ k ∷ ks) (k ∷ ks) (k ∷ in_place key ks)

-- The keys of a list, each once, in order
abbrev pub ordered : List Key → List Key
ordered keys = fold (λ found key. in_place key found) [] keys

-- The chains that a map keeps, by rising key
abbrev pub chain_lists : BTreeMap Key (Contents ℕ) → List (Key × List ℕ)
chain_lists chains = map (λ e. (e.0, e.1.items)) chains.entries

-- The chains with an operation appended to that of its key
unfoldable pub with_op : Key → (op : ℕ) → List (Key × List ℕ) → List (Key × List ℕ)
with_op key op [] = (key, op ∷ []) ∷ []
with_op key op (e ∷ es) =
    match_ordering (key_cmp key e.0) ((key, op ∷ []) ∷ e ∷ es) ((e.0, e.1 ++ op ∷ []) ∷ es) (e ∷ with_op key op es)
