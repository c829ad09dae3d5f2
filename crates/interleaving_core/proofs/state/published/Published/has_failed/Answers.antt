use Rattle.interleaving_core.proofs.Linked.{failed_from, failed_to}
use Rattle.interleaving_core.proofs.state.published.Published.has_failed.Goals as goal

pub returns : goal.returns
returns c =
    let es = c.args.self.now.entries.items in
    (λ yes. failed_from es c.args.op (c.has.ensures.0 yes), λ has. c.has.ensures.1 (failed_to es c.args.op has))
