use Rattle.std.proofs.Common.{ap, ◌∙◌}
use Rattle.op_words.specs.declared.trail.View.{View}
use Rattle.op_eval.specs.Running.{IsFreeRunner}
use Rattle.strata_explorer.proofs.Climbing.{first_set}
use Rattle.strata_explorer.proofs.passes.next_level.Goals as goal

pub returns-clause-seated : goal.returns-clause-seated
returns-clause-seated c =
    let level = c.level-lowest.ensures in
    first_set (IsFreeRunner c.args.board.now) c.args.runners.now _ c.requires.seated
    (record { hand = level.hand; free = ap (λ (v : View). v.claim) level.view ∙ (c.requires.seated 0 c.index-runners-0.result c.requires.some).free })
