-- An operation appended to the chain of its key.
use Rattle.std.proofs.Common.{◌≡◌, ℕ, ◌+◌, Bool, true, false, ◌||◌, cond, List, [], ◌∷◌, ◌++◌, map, filter, refl, sym, ◌∙◌, ap, subst, Some, None}
use Rattle.std.specs.List.{list_any}
use Rattle.std.specs.List.Sorted.{IsStrictlySortedBy}
use Rattle.std.specs.Map.{lookup, set_value, keys_of}
use Rattle.std.specs.BTreeMap.{insert_entry, is_at}
use Rattle.std.specs.Ordering.{match_ordering, is_eq}
use Rattle.std.specs.declared.cmp.Ordering.{Ordering}
use Rattle.std.specs.declared.cmp.Ordering.TheVariants.{Less, Equal, Greater}
use Rattle.std.proofs.Math.Path.{fun_ext}
use Rattle.std.proofs.lemmas.List.{append-nil, map-append}
use Rattle.std.proofs.lemmas.List.Elements.{filter-append}
use Rattle.morph_base.specs.declared.key.Key.{Key}
use Rattle.morph_base.specs.declared.plan.Plan.{Plan}
use Rattle.morph_base.specs.Contents.{Contents}
use Rattle.morph_base.specs.Operations.{same_key}
use Rattle.morph_base.specs.Plans.{target}
use Rattle.morph_base.specs.Graphs.{below}
use Rattle.morph_base.proofs.LevelLaws.{below_more}
use Rattle.morph_base.proofs.KeyLaws.{same_key-self, same_key-from}
use Rattle.chain_units.specs.Chains.{key_cmp, in_place, ordered, with_op}
use Rattle.chain_units.specs.Units.{chain_below, targets_below}
use Rattle.chain_units.proofs.KeyOrder.{tied_keys, flipped, flipped_less, less_differs, greater_differs}
use Rattle.chain_units.proofs.Insertion.{IsBelow, below_all, none_above, ordered_rises, ordered_any, ordered_more}

abbrev pub Entry : Type 0
Entry = Key × Contents ℕ

-- an entry of the map as a chain
abbrev pub chain_of : Entry → Key × List ℕ
chain_of e = (e.0, e.1.items)

-- a chain found for a key below all others: there is none
nothing_below : (key : Key) (es : List Entry) → IsBelow key (keys_of es) → lookup (is_at (key_cmp key)) es ≡ None
nothing_below key [] less = refl
nothing_below key (e ∷ es) less = by_order (key_cmp key e.0) less.0 (nothing_below key es less.1)
  where
    by_order : (o : Ordering) → o ≡ Less → lookup (is_at (key_cmp key)) es ≡ None → cond (is_eq o) (Some e.1) (lookup (is_at (key_cmp key)) es) ≡ None
    by_order Less is rest = rest
    by_order Equal is rest = absurd (cc)
    by_order Greater is rest = absurd (cc)

-- the chain of the key grew in place
pub grown : (key : Key) (op : ℕ) (es : List Entry) (old new : Contents ℕ) → IsStrictlySortedBy key_cmp (keys_of es)
    → lookup (is_at (key_cmp key)) es ≡ Some old → new.items ≡ old.items ++ op ∷ []
    → map chain_of (set_value (is_at (key_cmp key)) es new) ≡ with_op key op (map chain_of es)
unfolding with_op IsStrictlySortedBy
grown key op [] old new rise found more = absurd (cc)
grown key op (e ∷ es) old new rise found more = by_order (key_cmp key e.0) refl found (λ f. grown key op es old new rise.1 f more)
  where
    by_order : (o : Ordering) → key_cmp key e.0 ≡ o → cond (is_eq o) (Some e.1) (lookup (is_at (key_cmp key)) es) ≡ Some old
        → (lookup (is_at (key_cmp key)) es ≡ Some old → map chain_of (set_value (is_at (key_cmp key)) es new) ≡ with_op key op (map chain_of es))
        → map chain_of (cond (is_eq o) ((e.0, new) ∷ es) (e ∷ set_value (is_at (key_cmp key)) es new))
        ≡ match_ordering o ((key, op ∷ []) ∷ chain_of e ∷ map chain_of es) ((e.0, e.1.items ++ op ∷ []) ∷ map chain_of es) (chain_of e ∷ with_op key op (map chain_of es))
    by_order Less is f rest = let none : lookup (is_at (key_cmp key)) es ≡ None = nothing_below key es (below_all key e.0 (keys_of es) is rise.0) in absurd (cc)
    by_order Equal is f rest =
        let same : e.1 ≡ old = cc in
        ap (λ items. (e.0, items) ∷ map chain_of es) (more ∙ ap (λ (c : Contents ℕ). c.items ++ op ∷ []) (sym same))
    by_order Greater is f rest = ap (λ cs. chain_of e ∷ cs) (rest f)

-- a chain was begun for a key that had none
pub begun : (key : Key) (op : ℕ) (es : List Entry) (new : Contents ℕ) → lookup (is_at (key_cmp key)) es ≡ None → new.items ≡ op ∷ []
    → map chain_of (insert_entry key_cmp es key new) ≡ with_op key op (map chain_of es)
unfolding with_op
begun key op [] new none one = ap (λ items. (key, items) ∷ []) one
begun key op (e ∷ es) new none one = by_order (key_cmp key e.0) none (λ f. begun key op es new f one)
  where
    by_order : (o : Ordering) → cond (is_eq o) (Some e.1) (lookup (is_at (key_cmp key)) es) ≡ None
        → (lookup (is_at (key_cmp key)) es ≡ None → map chain_of (insert_entry key_cmp es key new) ≡ with_op key op (map chain_of es))
        → map chain_of (match_ordering o ((key, new) ∷ e ∷ es) ((e.0, new) ∷ es) (e ∷ insert_entry key_cmp es key new))
        ≡ match_ordering o ((key, op ∷ []) ∷ chain_of e ∷ map chain_of es) ((e.0, e.1.items ++ op ∷ []) ∷ map chain_of es) (chain_of e ∷ with_op key op (map chain_of es))
    by_order Less f rest = ap (λ items. (key, items) ∷ chain_of e ∷ map chain_of es) one
    by_order Equal f rest = absurd (cc)
    by_order Greater f rest = ap (λ cs. chain_of e ∷ cs) (rest f)

-- chains by a function of their keys, with an operation more at one key
module _ (f : Key → List ℕ) (key : Key) (op : ℕ) where
  abbrev made : Key → Key × List ℕ
  made k = (k, f k)

  abbrev more : Key → List ℕ
  more k = f k ++ cond (same_key k key) (op ∷ []) []

  abbrev made_more : Key → Key × List ℕ
  made_more k = (k, more k)

  other : (k : Key) → same_key k key ≡ false → f k ≡ more k
  other k differs = sym (ap (λ b. f k ++ cond b (op ∷ []) []) differs ∙ append-nil (f k))

  others : (ks : List Key) → IsBelow key ks → map made ks ≡ map made_more ks
  others [] less = refl
  others (k ∷ ks) less =
      ap (λ items. (k, items) ∷ map made ks) (other k (greater_differs k key (flipped_less key k less.0)))
      ∙ ap (λ cs. made_more k ∷ cs) (others ks less.1)

  itself : more key ≡ f key ++ op ∷ []
  itself = ap (λ b. f key ++ cond b (op ∷ []) []) (same_key-self key)

  pub entered : (ks : List Key) → IsStrictlySortedBy key_cmp ks → (list_any (same_key key) ks ≡ false → f key ≡ [])
      → with_op key op (map made ks) ≡ map made_more (in_place key ks)
  unfolding with_op in_place IsStrictlySortedBy
  entered [] rise none = ap (λ items. (key, items) ∷ []) (sym (itself ∙ ap (λ items. items ++ op ∷ []) (none refl)))
  entered (k ∷ ks) rise none = by_order (key_cmp key k) refl (λ n. entered ks rise.1 n)
    where
      by_order : (o : Ordering) → key_cmp key k ≡ o
          → ((list_any (same_key key) ks ≡ false → f key ≡ []) → with_op key op (map made ks) ≡ map made_more (in_place key ks))
          → match_ordering o ((key, op ∷ []) ∷ made k ∷ map made ks) ((k, f k ++ op ∷ []) ∷ map made ks) (made k ∷ with_op key op (map made ks))
          ≡ map made_more (match_ordering o (key ∷ k ∷ ks) (k ∷ ks) (k ∷ in_place key ks))
      by_order Less is rest =
          let all : IsBelow key (k ∷ ks) = (is, below_all key k ks is rise.0) in
          ap (λ items. (key, items) ∷ made k ∷ map made ks) (sym (itself ∙ ap (λ items. items ++ op ∷ []) (none (none_above key (k ∷ ks) all))))
          ∙ ap (λ cs. made_more key ∷ cs) (others (k ∷ ks) all)
      by_order Equal is rest =
          let same : key ≡ k = tied_keys key k is in
          let here : f k ++ op ∷ [] ≡ more k = sym (ap (λ b. f k ++ cond b (op ∷ []) []) (same_key-from k key (sym same))) in
          let all : IsBelow key ks = subst (λ x. IsBelow x ks) (sym same) rise.0 in
          ap (λ items. (k, items) ∷ map made ks) here ∙ ap (λ cs. made_more k ∷ cs) (others ks all)
      by_order Greater is rest =
          ap (λ items. (k, items) ∷ with_op key op (map made ks)) (other k (less_differs k key (flipped key k is)))
          ∙ ap (λ cs. made_more k ∷ cs) (rest (λ n. none (ap (λ b. b || list_any (same_key key) ks) (greater_differs key k is) ∙ n)))

module _ (p : Plan) where
  -- the first n operations that change a key, and one more
  pub chain_more : (n : ℕ) (key : Key) → chain_below p (n + 1) key ≡ more (chain_below p n) (target p n) n key
  chain_more n key =
      ap (filter (λ o. same_key key (target p o))) (below_more n)
      ∙ filter-append (λ o. same_key key (target p o)) (below n) (n ∷ [])

  -- a key that they do not change has no chain
  untouched : (key : Key) (os : List ℕ) → list_any (same_key key) (map (target p) os) ≡ false → filter (λ o. same_key key (target p o)) os ≡ []
  untouched key [] none = refl
  untouched key (o ∷ os) none = by_test (same_key key (target p o)) none (λ n. untouched key os n)
    where
      by_test : (t : Bool) → (t || list_any (same_key key) (map (target p) os)) ≡ false
          → (list_any (same_key key) (map (target p) os) ≡ false → filter (λ x. same_key key (target p x)) os ≡ [])
          → cond t (o ∷ filter (λ x. same_key key (target p x)) os) (filter (λ x. same_key key (target p x)) os) ≡ []
      by_test true n rest = absurd (cc)
      by_test false n rest = rest n

  pub targets_more : (n : ℕ) → targets_below p (n + 1) ≡ in_place (target p n) (targets_below p n)
  targets_more n =
      ap (λ os. ordered (map (target p) os)) (below_more n)
      ∙ ap ordered (map-append (target p) (below n) (n ∷ []))
      ∙ ordered_more (map (target p) (below n)) (target p n)

  -- the chains of the first n operations, and one more
  abbrev pub chains_below : ℕ → List (Key × List ℕ)
  chains_below n = map (λ key. (key, chain_below p n key)) (targets_below p n)

  pub chains_more : (n : ℕ) → with_op (target p n) n (chains_below n) ≡ chains_below (n + 1)
  chains_more n =
      entered (chain_below p n) (target p n) n (targets_below p n) (ordered_rises (map (target p) (below n)))
      (λ none. untouched (target p n) (below n) (sym (ordered_any (same_key (target p n)) (map (target p) (below n))) ∙ none))
      ∙ ap (λ (f : Key → List ℕ). map (λ key. (key, f key)) (in_place (target p n) (targets_below p n))) (fun_ext (λ key. sym (chain_more n key)))
      ∙ ap (map (λ key. (key, chain_below p (n + 1) key))) (sym (targets_more n))

-- the chains alone, of a map's entries and of keys
pub lists_of : (es : List Entry) → map (λ (unit : Contents ℕ). unit.items) (map (λ (e : Entry). e.1) es) ≡ map (λ (e : Key × List ℕ). e.1) (map chain_of es)
lists_of [] = refl
lists_of (e ∷ es) = ap (λ cs. e.1.items ∷ cs) (lists_of es)

pub chains_of : (f : Key → List ℕ) (ks : List Key) → map (λ (e : Key × List ℕ). e.1) (map (λ k. (k, f k)) ks) ≡ map f ks
chains_of f [] = refl
chains_of f (k ∷ ks) = ap (λ cs. f k ∷ cs) (chains_of f ks)
