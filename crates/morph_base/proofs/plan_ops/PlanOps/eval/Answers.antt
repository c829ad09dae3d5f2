use Rattle.std.specs.Prelude.{All, IfSome}
use Rattle.std.proofs.Common.{◌+◌, ◌≤◌, subst, sym, ap, ◌∙◌}
use Rattle.morph_base.specs.declared.operation.Op.{Op}
use Rattle.morph_base.specs.Functions.{value_of}
use Rattle.morph_base.specs.Operations.{IsShaped}
use Rattle.morph_base.proofs.OpViewLaws.{in_rows, row_is}
use Rattle.morph_base.proofs.plan_ops.PlanOps.eval.Goals as goal

pub eval-requires-clause-inside : goal.eval-requires-clause-inside
eval-requires-clause-inside c = in_rows c.self.inside c.args.self.now c.self.view_is c.self.invariant c.args.o c.requires.inside

pub eval-requires-clause-shaped : goal.eval-requires-clause-shaped
eval-requires-clause-shaped c =
    subst IsShaped (row_is c.self.inside c.args.self.now c.self.view_is c.self.invariant c.args.o c.requires.inside) c.requires.shaped

pub eval-requires-clause-reads : goal.eval-requires-clause-reads
eval-requires-clause-reads c =
    c.requires.reads
    ∙ ap (λ (op : Op). op.n_params + 1) (row_is c.self.inside c.args.self.now c.self.view_is c.self.invariant c.args.o c.requires.inside)

pub returns-clause-value : goal.returns-clause-value
returns-clause-value c =
    c.eval.ensures.value
    ∙ ap (λ (op : Op). value_of op c.args.xs.now) (sym (row_is c.self.inside c.args.self.now c.self.view_is c.self.invariant c.args.o c.requires.inside))

pub returns-clause-within : goal.returns-clause-within
returns-clause-within c =
    subst (λ (op : Op). All (λ x. x ≤ op.high) c.args.xs.now → IfSome c.eval.result (λ v. v ≤ op.high))
    (sym (row_is c.self.inside c.args.self.now c.self.view_is c.self.invariant c.args.o c.requires.inside)) c.eval.ensures.within
