use Rattle.std.proofs.Common.{◌≡◌, ℕ, ◌+◌, List, ◌++◌, ◌∷◌, [], map, replicate, ap, ◌∙◌}
use Rattle.std.specs.Prelude.{slice_index_or, slice_set}
use Rattle.morph_base.specs.declared.limits.TheConstants.{READS}
use Rattle.morph_base.specs.declared.operation.Op.{Op}
use Rattle.morph_base.specs.declared.plan.Origin.TheVariants.{Base}
use Rattle.morph_base.specs.declared.plan.PlanOp.{PlanOp}
use Rattle.morph_base.specs.Operations.{no_op, reads}
use Rattle.morph_base.specs.OpLists.{OpList}
use Rattle.precedence_graph.specs.Planned.{padded, planned}
use Rattle.precedence_graph.specs.Writers.{source_in}
use Rattle.precedence_graph.proofs.PlaceLemmas.{put_last}
use Rattle.precedence_graph.proofs.planned.add_planned.Goals as goal

pub returns-clause-items : goal.returns-clause-items
returns-clause-items c =
    let ops : List PlanOp = c.args.ops.now.items in
    let o : ℕ = c.len-o.result in
    let op : Op = slice_index_or c.args.ops.now.coming 0 no_op in
    let q : PlanOp = record { op = op; event = c.args.event; origins = replicate READS (Base 0); level = 1 } in
    let sourced : PlanOp → PlanOp
    = λ p. record p { origins = padded (map (source_in c.args.writers.now) (reads p.op)) } in
    let leveled : PlanOp → PlanOp = λ p. record p { level = 1 + c.set_sources-reads.result.level } in
    let sources : c.set_sources-reads.new.ops.items ≡ ops ++ sourced q ∷ []
    = ap (λ (x : OpList). x.items) c.set_sources-reads.ensures.ops
    ∙ ap (λ (items : List PlanOp). slice_set items o (sourced (planned items o))) c.add_next.ensures.items
    ∙ put_last ops q sourced o c.len-o.ensures in
    ap (λ (x : OpList). x.items) c.set_level.ensures
    ∙ ap (λ (items : List PlanOp). slice_set items o (leveled (planned items o))) sources
    ∙ put_last ops (sourced q) leveled o c.len-o.ensures
