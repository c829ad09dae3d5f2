use Rattle.std.proofs.Common.{None, sym, ◌∙◌}
use Rattle.interleaving_core.proofs.state.CoreState.held.Goals as goal

pub returns-in-Some-clause-fits : goal.returns-in-Some-clause-fits
returns-in-Some-clause-fits c = c.requires.fits c.args.by c.in-Some.claim (sym (c.get.ensures.at None) ∙ c.in-Some.is)
