use Rattle.std.proofs.Common.{◌≡◌, ℕ, ◌≤◌, ap, sym, subst, ◌∙◌}
use Rattle.std.proofs.lemmas.List.{get_or_default}
use Rattle.morph_base.specs.declared.key.Key.{Key}
use Rattle.morph_base.specs.declared.plan.Plan.{Plan}
use Rattle.morph_base.specs.declared.plan.PlanOp.{PlanOp}
use Rattle.morph_base.specs.Operations.{InLayout, reads}
use Rattle.morph_base.specs.OpLists.{OpList}
use Rattle.morph_base.specs.Flat.{Kept, contents}
use Rattle.morph_base.specs.States.{State}
use Rattle.morph_base.specs.Plans.{IsPlan, high_of, HasBases, filled_plan, no_plan_op}
use Rattle.std.specs.Prelude.{All, slice_index_or}
use Rattle.morph_base.proofs.FillLaws.{filled_is_plan, has_bases-filled}
use Rattle.version_table.proofs.state.State.bases.Goals as goal

pub fill_bases-requires : goal.fill_bases-requires
fill_bases-requires c o d lt =
    subst (λ (k : Kept). All (InLayout k.layout) (reads (slice_index_or c.args.plan.now.ops.items o d).op)) (sym c.self.view_is)
    (subst (λ (q : PlanOp). All (InLayout c.args.self.now.layout) (reads q.op)) (get_or_default c.args.plan.now.ops.items o no_plan_op d lt)
    (c.requires.keys o lt))

filled_is : (p : Plan) (s : State) (q : Plan) → q ≡ filled_plan s p → IsPlan p → ((key : Key) → s key ≤ high_of p) → IsPlan q × HasBases q s
filled_is p s q is valid small = subst (λ r. IsPlan r × HasBases r s) (sym is) (filled_is_plan s p valid small, has_bases-filled s p valid small)

pub returns : goal.returns
returns c =
    let p = c.args.plan.now in
    let whole = ap (λ (ops : OpList). record p { ops = ops }) c.fill_bases.ensures ∙ ap (λ (k : Kept). filled_plan (contents k) p) c.self.view_is in
    let both = filled_is p (contents c.args.self.now) _ whole c.requires.plan c.requires.small in
    record { filled = whole; plan = both.0; bases = both.1 }
