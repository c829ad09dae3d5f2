-- Lists that are made one item after another, and the places of an operation that was read.
use Rattle.std.proofs.Common.{◌≡◌, ℕ, ◌+◌, ◌<◌, ◌≤◌, List, [], ◌∷◌, ◌++◌, length, map, sym, ap, ◌∙◌, arith}
use Rattle.std.proofs.lemmas.List.{map-append}
use Rattle.morph_base.specs.declared.limits.TheConstants.{READS}
use Rattle.morph_base.specs.declared.plan.Plan.{Plan}
use Rattle.morph_base.specs.declared.plan.PlanOp.{PlanOp}
use Rattle.morph_base.specs.Graphs.{below}
use Rattle.morph_base.specs.Operations.{reads}
use Rattle.morph_base.specs.Plans.{IsPlan, op_count, op_at, keys_of}
use Rattle.morph_base.proofs.LevelLaws.{below_more}
use Rattle.morph_base.proofs.PlainLaws.{length-reads}

-- one item more, which is g of the next number
pub pushed : {Y : Type 0} (g : ℕ → Y) (n : ℕ) (before now : List Y) (y : Y) → before ≡ map g (below n) → now ≡ before ++ y ∷ [] → y ≡ g n → now ≡ map g (below (n + 1))
pushed {Y} g n before now y so_far one its =
    one
    ∙ ap (λ (l : List Y). l ++ y ∷ []) so_far
    ∙ ap (λ (b : Y). map g (below n) ++ b ∷ []) its
    ∙ sym (map-append g (below n) (n ∷ []))
    ∙ ap (map g) (sym (below_more n))

-- an operation that was read reads so many places
pub places_of : (p : Plan) (o n : ℕ) (q : PlanOp) → n ≡ length (reads q.op) → q ≡ op_at p o → n ≡ length (keys_of p o)
places_of p o n q many is = many ∙ ap (λ (r : PlanOp). length (reads r.op)) is

-- an operation has at least one place, and few
pub places_some : (p : Plan) (o : ℕ) → IsPlan p → o < op_count p → (0 < length (keys_of p o)) × (length (keys_of p o) ≤ READS)
places_some p o valid lt =
    let shaped = valid.numbering.shaped o lt in
    let few = shaped.places in
    let len = length-reads (op_at p o).op shaped in
    (omega arith, omega arith)
