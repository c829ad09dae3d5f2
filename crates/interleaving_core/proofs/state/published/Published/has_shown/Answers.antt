use Rattle.interleaving_core.proofs.Linked.{shown_from, shown_to}
use Rattle.interleaving_core.proofs.state.published.Published.has_shown.Goals as goal

pub returns : goal.returns
returns c =
    let es = c.args.self.now.entries.items in
    (λ yes. shown_from es c.args.op c.args.value (c.has.ensures.0 yes), λ has. c.has.ensures.1 (shown_to es c.args.op c.args.value has))
