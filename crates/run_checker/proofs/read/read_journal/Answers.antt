use Rattle.std.proofs.Common.{sym, subst}
use Rattle.run_checker.proofs.TextLaws.{IsReadTo, read_none, read_more}
use Rattle.run_checker.proofs.read.read_journal.Goals as goal

pub lines-init : goal.lines-init
lines-init c = subst (λ events. IsReadTo c.args.bytes.now c.args.bytes.now events 1) (sym c.new-events.ensures.items) (read_none c.args.bytes.now)

pub lines-preserved : goal.lines-preserved
lines-preserved c =
    read_more c.args.bytes.now c.lines.rest.now c.in-Some.more.now c.lines.events.items c.push.new.self.items c.in-Some.event c.lines.line c.lines.invariant
    c.in-Some.ensures.some c.in_ok-push.ensures.items
