use Rattle.std.proofs.Common.{sym, subst}
use Rattle.run_text.specs.declared.choices.App.TheVariants.{Ledger, Grep, Toll}
use Rattle.morph_cli.specs.Apps.{event_in}
use Rattle.morph_cli.specs.Calls.{IsReadBy}
use Rattle.morph_cli.proofs.Inputs.{does_in_app}
use Rattle.morph_cli.proofs.top_call.run_app.Goals as goal

pub returns-in-Ledger-clause-run : goal.returns-in-Ledger-clause-run
returns-in-Ledger-clause-run g c = does_in_app c.args.settings (g.S.Source.left c.args.source.now) Ledger c.in-Ledger.is c.run_over.ensures.run

pub returns-in-Grep-clause-run : goal.returns-in-Grep-clause-run
returns-in-Grep-clause-run g c = does_in_app c.args.settings (g.S.Source.left c.args.source.now) Grep c.in-Grep.is c.run_over-in-Grep.ensures.run

pub returns-in-Toll-clause-run : goal.returns-in-Toll-clause-run
returns-in-Toll-clause-run g c = does_in_app c.args.settings (g.S.Source.left c.args.source.now) Toll c.in-Toll.is c.run_over-in-Toll.ensures.run

pub returns-in-Ledger-clause-asks : goal.returns-in-Ledger-clause-asks
returns-in-Ledger-clause-asks g c none =
    subst (λ app. IsReadBy g.S.Source.left g.S.Source.reads (event_in app c.args.settings.size) c.args.source.now c.run_over.new.source) (sym c.in-Ledger.is) (c.run_over.ensures.asks none)

pub returns-in-Grep-clause-asks : goal.returns-in-Grep-clause-asks
returns-in-Grep-clause-asks g c none =
    subst (λ app. IsReadBy g.S.Source.left g.S.Source.reads (event_in app c.args.settings.size) c.args.source.now c.run_over-in-Grep.new.source) (sym c.in-Grep.is) (c.run_over-in-Grep.ensures.asks none)

pub returns-in-Toll-clause-asks : goal.returns-in-Toll-clause-asks
returns-in-Toll-clause-asks g c none =
    subst (λ app. IsReadBy g.S.Source.left g.S.Source.reads (event_in app c.args.settings.size) c.args.source.now c.run_over-in-Toll.new.source) (sym c.in-Toll.is) (c.run_over-in-Toll.ensures.asks none)
