use Rattle.std.proofs.Common.{ap, ◌∙◌}
use Rattle.op_words.specs.declared.trail.View.{View}
use Rattle.op_eval.specs.Running.{IsFreeRunner}
use Rattle.strata_explorer.proofs.Climbing.{first_set}
use Rattle.strata_explorer.proofs.passes.empty_level.Goals as goal

pub returns-clause-seated : goal.returns-clause-seated
returns-clause-seated c =
    let reset = c.reset_level.ensures in
    first_set (IsFreeRunner c.reset_level.new.self) c.args.runners.now _ (λ k d lt. record { hand = reset.hands _ (c.requires.seated k d lt).hand; free = (c.requires.seated k d lt).free })
    (record { hand = reset.hand; free = ap (λ (v : View). v.claim) reset.view ∙ (c.requires.seated 0 c.index-runners-0.result c.requires.some).free })
