use Rattle.std.proofs.Common.{sym, subst, ◌∙◌}
use Rattle.morph_engine.specs.Accounts.{account_of}
use Rattle.run_checker.specs.Answers.{Answers}
use Rattle.morph_cli.proofs.JournalChecks.{answer_is, checked_cut, checked_yes}
use Rattle.morph_cli.proofs.checked.confirm.Goals as goal

pub returns-then-is_cut : goal.returns-then-is_cut
returns-then-is_cut c =
    let end = c.args.end.now in let k = c.requires.kept in let js = c.journal-journal.result.now in
    record {
      checked =
          checked_cut (account_of end) k.view.room k.ended.ends.core js c.journal-journal.ensures.steps (c.journal-journal.ensures.leads end.plan 1 k.counters k.view k.ended k.alone)
          (sym c.is_cut.ensures ∙ c.if-is_cut.true);
    }

pub unreachable-requires : goal.unreachable-requires
unreachable-requires c =
    let end = c.args.end.now in let k = c.requires.kept in let js = c.journal-journal.result.now in
    c.in_default.not-Yes
    (answer_is end.plan end.closed js c.requires.plan k (c.journal-journal.ensures.leads end.plan 1 k.counters k.view k.ended k.alone) (c.journal-journal.ensures.few end.plan 1 k.counters k.view k.ended)
    end.settled.values.items (record { each = c.requires.settled.value }) (sym c.is_cut.ensures ∙ c.if-is_cut.false) c.in_ok-check.field-0 c.in_ok-check.ensures.answer)

pub returns : goal.returns
returns c =
    let end = c.args.end.now in let k = c.requires.kept in let js = c.journal-journal.result.now in
    record {
      checked =
          checked_yes (account_of end) k.view.room k.ended.ends.core js c.journal-journal.ensures.steps (c.journal-journal.ensures.leads end.plan 1 k.counters k.view k.ended k.alone)
          c.requires.plan end.settled.values.items (subst (Answers end.plan 1 js end.settled.values.items) c.in-Yes.is c.in_ok-check.ensures.answer);
    }
