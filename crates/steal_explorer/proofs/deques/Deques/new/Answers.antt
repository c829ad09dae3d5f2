use Rattle.std.proofs.Common.{◌≡◌, arith, ap, length, sym, ◌∙◌}
use Rattle.op_eval.proofs.Seating.{come_back}
use Rattle.steal_explorer.proofs.Prepared.{ready}
use Rattle.steal_explorer.proofs.deques.Deques.new.Goals as goal

pub returns-clause-ready : goal.returns-clause-ready
returns-clause-ready c =
    let opened = c.in_ok-open_all.ensures in
    let long = c.prepare.auto.seats ∙ ap length c.as_mut_slice.ensures.items in
    let back = come_back c.open_all.new.seats.items c.prepare.new.seats long in
    let many : length c.prepare.new.seats ≡ c.args.workers = long ∙ opened.len in
    let beside : length c.prepare.new.seats ≡ length c.as_slice.result.now = long ∙ opened.opened.len ∙ sym (ap length c.as_slice.ensures) in
    ready _ _ c.as_slice.result.now c.prepare.new.seats (sym c.as_slice.ensures) back (omega (arith, many)) beside (omega (arith, many, beside, c.requires.few)) c.prepare.ensures.seats c.prepare.ensures.dealt
    c.in_ok-members.ensures.items (omega (arith, many, c.in_ok-members.ensures.room))
