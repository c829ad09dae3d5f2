-- Keys that differ: one more, and one that is there already.
use Rattle.std.proofs.Common.{◌≡◌, ℕ, ◌+◌, ◌-◌, ◌<◌, ◌≤◌, Bool, true, false, List, [], length, get_or, take, drop, map, sym, ap, subst, ◌∙◌, inl, inr, arith}
use Rattle.std.specs.Prelude.{All}
use Rattle.std.specs.List.{IsDistinct, list_any}
use Rattle.std.specs.Cmp.{IsEquivalence}
use Rattle.std.proofs.lemmas.Bool.{true≢false, cases_Bool}
use Rattle.std.proofs.lemmas.List.{length-map, length-take, length-drop, get_or-map, get_or-take, get_or-drop, map_more}
use Rattle.std.proofs.lemmas.List.Folds.{Any-from_list_any}
use Rattle.std.proofs.lemmas.Map.Keys.{apart_from_distinct, IsDistinct-push}
use Rattle.morph_base.specs.declared.key.Key.{Key}
use Rattle.morph_base.specs.Operations.{no_key, same_key}
use Rattle.morph_base.proofs.KeyLaws.{same_key-true, same_key-self}

same_key-symm : (a b : Key) → same_key a b ≡ same_key b a
same_key-symm a b =
    elim (cases_Bool (same_key a b)) [
      | inl e ↦ ap (λ k. same_key k b) (same_key-true a b e) ∙ ap (same_key b) (sym (same_key-true a b e))
      | inr e ↦ elim (cases_Bool (same_key b a)) [
        | inl f ↦ ap (λ k. same_key k b) (sym (same_key-true b a f)) ∙ ap (same_key b) (same_key-true b a f)
        | inr f ↦ e ∙ sym f
      ]
    ]

pub same_key_equiv : IsEquivalence same_key
same_key_equiv = record {
  refl = same_key-self;
  symm = same_key-symm;
  congr = λ a b c e. ap (λ k. same_key k c) (same_key-true a b e);
}

module _ {X K : Type 0} (e : K → K → Bool) (is : IsEquivalence e) (f : X → K) (xs : List X) (i : ℕ) (d : X) (inside : i < length xs) where
  -- the key at i is none of those before it
  pub distinct_more : IsDistinct e (map f (take i xs)) → list_any (e (f (get_or xs i d))) (map f (take i xs)) ≡ false → IsDistinct e (map f (take (i + 1) xs))
  distinct_more so_far new =
      subst (IsDistinct e) (sym (map_more f xs i d inside)) (IsDistinct-push is (map f (take i xs)) (f (get_or xs i d)) so_far new)

  -- the key at i is one of those before it
  pub distinct_not : list_any (e (f (get_or xs i d))) (map f (take i xs)) ≡ true → IsDistinct e (map f xs) → ⊥
  distinct_not old apart =
      let key = f (get_or xs i d) in
      let found = Any-from_list_any (e key) (map f (take i xs)) old in
      let k : ℕ = found.0 in
      let before : k < i = omega (arith, found.2, length-map (take i xs) f, length-take i xs) in
      let earlier : get_or (map f (take i xs)) k found.1 ≡ f (get_or xs k d) = get_or-map f (take i xs) k d found.1 (omega (arith, length-take i xs)) ∙ ap f (get_or-take i xs k d before) in
      let same : e (f (get_or xs k d)) key ≡ true = ap (λ x. e x key) (sym earlier ∙ found.3) ∙ is.symm found.1 key ∙ found.4 in
      let at_k : get_or (map f xs) k key ≡ f (get_or xs k d) = get_or-map f xs k d key (omega arith) in
      let at_i : get_or (map f xs) i key ≡ key = get_or-map f xs i d key inside in
      let differ = apart_from_distinct e (map f xs) k i key apart before (omega (arith, length-map xs f)) in
      true≢false (sym same ∙ ap (λ x. e x key) (sym at_k) ∙ ap (e (get_or (map f xs) k key)) (sym at_i) ∙ differ)

pub distinct_none : {K : Type 0} (e : K → K → Bool) → IsDistinct e []
unfolding IsDistinct
distinct_none e = tt

-- the places from n on hold no key, read in the list and in its end
pub blank_at : (keys : List Key) (n : ℕ) → All (λ key. key ≡ no_key) (drop n keys) → (j : ℕ) (d : Key) → n ≤ j → j < length keys → get_or keys j d ≡ no_key
blank_at keys n blank j d from lt =
    let place : n + (j - n) ≡ j = omega arith in
    ap (λ k. get_or keys k d) (sym place) ∙ sym (get_or-drop n keys (j - n) d) ∙ blank (j - n) d (omega (arith, length-drop n keys))

pub blank_from : (keys : List Key) (n : ℕ) → ((j : ℕ) (d : Key) → n ≤ j → j < length keys → get_or keys j d ≡ no_key) → All (λ key. key ≡ no_key) (drop n keys)
blank_from keys n blank k d lt = get_or-drop n keys k d ∙ blank (n + k) d (omega arith) (omega (arith, length-drop n keys))
