use Rattle.interleaving_core.proofs.Linked.{another_from, another_to}
use Rattle.interleaving_core.proofs.state.published.Published.has_shown_another.Goals as goal

pub returns : goal.returns
returns c =
    let es = c.args.self.now.entries.items in
    (λ yes. another_from es c.args.op c.args.value (c.has.ensures.0 yes), λ has. c.has.ensures.1 (another_to es c.args.op c.args.value has))
