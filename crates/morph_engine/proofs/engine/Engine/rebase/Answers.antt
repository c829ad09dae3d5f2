use Rattle.std.proofs.Common.{◌≤◌, ap, sym, subst, ◌∙◌}
use Rattle.morph_base.specs.declared.plan.Plan.{Plan}
use Rattle.morph_base.specs.Flat.{Kept, contents}
use Rattle.morph_base.specs.Plans.{PlanKeysIn, high_of, transactions}
use Rattle.morph_base.specs.Graphs.{IsGraph}
use Rattle.morph_base.proofs.FillLaws.{transactions-filled, keys_in-filled}
use Rattle.morph_base.proofs.GraphFillLaws.{graph-filled}
use Rattle.morph_engine.proofs.engine.Engine.rebase.Goals as goal

pub returns-clause-valid : goal.returns-clause-valid
returns-clause-valid c = record {
  plan = c.bases.ensures.plan;
  graph = subst IsGraph (sym c.bases.ensures.filled) (graph-filled (contents c.self.inside.state) c.args.plan.now c.requires.plan.graph);
}

pub returns-clause-keys : goal.returns-clause-keys
returns-clause-keys c =
    subst (λ (q : Plan). PlanKeysIn q c.args.self.now.layout) (sym c.bases.ensures.filled)
    (keys_in-filled (contents c.self.inside.state) c.args.plan.now c.args.self.now.layout c.requires.keys)

pub returns-clause-transactions : goal.returns-clause-transactions
returns-clause-transactions c = ap transactions c.bases.ensures.filled ∙ transactions-filled (contents c.self.inside.state) c.args.plan.now

pub bases-requires-clause-small : goal.bases-requires-clause-small
bases-requires-clause-small c = λ key. subst (λ (s : Kept). contents s key ≤ high_of c.args.plan.now) (sym c.self.view_is) (c.requires.small key)
