use Rattle.std.proofs.Common.{◌≡◌, ◌∙◌, List, All, take, subst, sym, ap}
use Rattle.std.proofs.lemmas.List.Elements.{All-cons, All-tail}
use Rattle.morph_base.specs.declared.key.Key.{Key}
use Rattle.morph_base.specs.Operations.{InLayout}
use Rattle.morph_base.proofs.validity.reads_in.Goals as goal

pub returns-then-contains : goal.returns-then-contains
returns-then-contains c =
    let op = c.args.op.now in
    let inside = InLayout c.args.layout in
    let params : List Key = take op.n_params op.params in
    let same : c.first-params.result.now ≡ params = c.first-params.ensures ∙ ap (λ n. take n op.params) c.from.ensures in (
      (λ yes. All-cons inside op.key params (c.contains.ensures.0 c.if-contains.true) (subst (All inside) same (c.are_in.ensures.0 yes))),
      λ all. c.are_in.ensures.1 (subst (All inside) (sym same) (All-tail inside op.key params all)),
    )
