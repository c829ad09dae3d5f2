-- Each operation of a valid plan reads from operations of the plan, and from none at level 1.
use Rattle.std.proofs.Common.{◌≡◌, ℕ, ◌<◌, ◌≤◌, List, length, get_or, take, refl, sym, subst, ◌∙◌, arith}
use Rattle.std.specs.Prelude.{All}
use Rattle.std.proofs.lemmas.List.{length-take, get_or-take, get_or_default}
use Rattle.morph_base.specs.declared.key.Key.{Key}
use Rattle.morph_base.specs.declared.plan.Origin.{Origin}
use Rattle.morph_base.specs.declared.plan.Origin.TheVariants.{Base, Op as Written}
use Rattle.morph_base.specs.declared.plan.Plan.{Plan}
use Rattle.morph_base.specs.Plans.{IsPlan, IsSourceIn, op_count, op_at, event_of, keys_of, key_at, origin_at, origins_of}
use Rattle.morph_base.specs.Graphs.{IsGraph, IsValidPlan}
use Rattle.morph_base.proofs.LevelLaws.{op_level-rises, op_level-range}
use Rattle.precedence_graph.specs.Planned.{IsAmong, IsSoundPlanOp}
use Rattle.precedence_graph.proofs.ReadyLemmas.{all_planned}

-- what holds of the source at each place holds of all sources
all_sources : (P : Origin → Type 0) (p : Plan) (o : ℕ) → ((j : ℕ) → j < length (keys_of p o) → P (origin_at p o j)) → All P (origins_of p o)
all_sources P p o each k d inside =
    let origins : List Origin = (op_at p o).origins in
    let places : ℕ = length (keys_of p o) in
    let many : length (take places origins) ≡ _ = length-take places origins in
    let used : k < places = omega arith in
    let at : get_or (origins_of p o) k d ≡ origin_at p o k = get_or-take places origins k d used ∙ get_or_default origins k d (Base 0) (omega arith) in
    subst P (sym at) (each k used)

source_among : (p : Plan) (i : ℕ) (key : Key) (origin : Origin) → IsSourceIn p i key origin → IsAmong (op_count p) origin
source_among p i key (Base v) source = tt
source_among p i key (Written s) source = source.itself.in_range

module _ (p : Plan) (valid : IsPlan p) (graph : IsGraph p) where
  -- the source at a place is none of the operations, if its own is at level 1
  lowest_source : (o j : ℕ) → o < op_count p → j < length (keys_of p o) → (op_at p o).level ≤ 1 → (origin : Origin) → origin_at p o j ≡ origin → IsAmong 0 origin
  lowest_source o j lt inside low (Base v) is = tt
  lowest_source o j lt inside low (Written s) is =
      let among : s < op_count p = (subst (IsSourceIn p (event_of p o) (key_at p o j)) is (valid.sources o j lt inside)).itself.in_range in
      let rises = op_level-rises p valid graph o j s lt inside is in
      let positive = (op_level-range p valid graph s among).0 in
      absurd (omega arith)

  sound : (o : ℕ) → o < op_count p → IsSoundPlanOp (op_count p) (op_at p o)
  sound o lt = record {
    shaped = valid.numbering.shaped o lt;
    places = valid.places o lt;
    among = all_sources (IsAmong (op_count p)) p o (λ j inside. source_among p (event_of p o) (key_at p o j) (origin_at p o j) (valid.sources o j lt inside));
    lowest = λ low. all_sources (IsAmong 0) p o (λ j inside. lowest_source o j lt inside low (origin_at p o j) refl);
  }

pub all_sound : (p : Plan) → IsValidPlan p → All (IsSoundPlanOp (op_count p)) p.ops.items
all_sound p valid = all_planned (IsSoundPlanOp (op_count p)) (op_count p) p.ops.items refl (sound p valid.plan valid.graph)
