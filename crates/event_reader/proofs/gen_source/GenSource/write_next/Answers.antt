use Rattle.event_reader.proofs.GeneratedLines.{line_begun}
use Rattle.event_reader.proofs.gen_source.GenSource.write_next.Goals as goal

pub returns-clause-same : goal.returns-clause-same
returns-clause-same g c =
    let end = rw (← c.self.view_is) at c.requires.end in
    let more = rw (← c.self.view_is) at c.requires.more in
    rw (← c.self.view_is)
    (line_begun (g.A.MakesInput.generated c.self.inside.app c.self.inside.size) _ c.write_event.new.line c.self.inside.count c.self.inside.next
    c.self.inside.draws c.write_event.new.draws end more c.write_event.ensures.line c.write_event.ensures.state)
