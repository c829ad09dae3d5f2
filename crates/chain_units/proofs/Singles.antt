-- Operations that are alone, as units.
use Rattle.std.proofs.Common.{◌≡◌, ℕ, ◌<◌, List, [], ◌∷◌, length, map, get_or, sym, ◌∙◌, ap, subst}
use Rattle.morph_base.specs.Graphs.{below}
use Rattle.chain_units.specs.declared.cut.Cut.{Cut}
use Rattle.chain_units.specs.declared.cut.Cut.TheVariants.{Alone}
use Rattle.chain_units.specs.Cuts.{grouping_of}
use Rattle.chain_units.specs.Places.{Grouping, StandsAt}
use Rattle.chain_units.proofs.Partition.{single_at, single_count, single_stands, single_unit}

module _ (cut : Cut) (n : ℕ) (g : Grouping) (is : cut ≡ Alone n) (view : grouping_of cut ≡ g) where
  seen : grouping_of (Alone n) ≡ g
  seen = sym (ap grouping_of is) ∙ view

  singles : map (λ o. o ∷ []) (below n) ≡ g.units
  singles = ap (λ (h : Grouping). h.units) seen

  pub alone_count : n ≡ length g.units
  alone_count = sym (single_count n) ∙ ap length singles

  pub alone_below : (u : ℕ) → u < length g.units → u < n
  alone_below u inside = subst (λ k. u < k) (sym alone_count) inside

  pub alone_unit : (u : ℕ) → u < length g.units → u ∷ [] ≡ get_or g.units u []
  alone_unit u inside = single_unit n u (alone_below u inside) ∙ ap (λ (units : List (List ℕ)). get_or units u []) singles

  pub alone_stands : (o : ℕ) → o < g.ops → StandsAt g.units o 0 o
  alone_stands o inside =
      subst (λ units. StandsAt units o 0 o) singles (single_stands n o (subst (λ k. o < k) (sym (ap (λ (h : Grouping). h.ops) seen)) inside))

  pub alone_at : (u i o : ℕ) → StandsAt g.units u i o → (o < n) × (u ≡ o) × (i ≡ 0)
  alone_at u i o stands = single_at n u i o (subst (λ units. StandsAt units u i o) (sym singles) stands)
