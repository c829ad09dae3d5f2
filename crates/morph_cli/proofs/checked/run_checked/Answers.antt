use Rattle.std.proofs.Common.{sym, subst}
use Rattle.morph_base.specs.declared.plan.Plan.{Plan}
use Rattle.morph_base.specs.declared.strategy.Abort.{Abort}
use Rattle.morph_base.specs.declared.strategy.Abort.TheVariants.{Lazy}
use Rattle.morph_base.specs.Plans.{IsPlan, IsSettledOf}
use Rattle.morph_engine.specs.Runs.{IsJournalledRun, journal_room}
use Rattle.morph_cli.proofs.checked.run_checked.Goals as goal

pub confirm-requires-clause-plan : goal.confirm-requires-clause-plan
confirm-requires-clause-plan g c = subst IsPlan (sym c.in_ok-end.ensures.ended.plan) c.requires.plan.plan

pub confirm-requires-clause-settled : goal.confirm-requires-clause-settled
confirm-requires-clause-settled g c =
    let end = c.in_ok-end.end in subst (λ (p : Plan). IsSettledOf p end.settled) (sym c.in_ok-end.ensures.ended.plan) c.in_ok-end.ensures.ended.settled

pub confirm-requires-clause-kept : goal.confirm-requires-clause-kept
confirm-requires-clause-kept g c =
    let end = c.in_ok-end.end in
    subst (λ (p : Plan). IsJournalledRun p Lazy (journal_room p) end.closed) (sym c.in_ok-end.ensures.ended.plan)
    (subst (λ (a : Abort). IsJournalledRun c.args.plan a (journal_room c.args.plan) end.closed) c.requires.lazy c.in_ok-end.ensures.kept)
