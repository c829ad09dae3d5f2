use Rattle.std.proofs.Common.{sym, refl, ◌∙◌, []}
use Rattle.morph_io.specs.Told.{ahead_nil}
use Rattle.event_reader.specs.SourceReads.{not_yet}
use Rattle.event_reader.proofs.BatchAnswers.{ended_told}
use Rattle.event_reader.proofs.batches.BatchReader.next_batch.Goals as goal

pub returns-then-not-live-clause-answer : goal.returns-then-not-live-clause-answer
returns-then-not-live-clause-answer g c =
    let live = rw (← c.self.view_is) at c.requires.live in
    let done = c.self.invariant.done live (sym c.live.ensures.live ∙ c.if-not-live.true) in
    rw (← c.self.view_is) record {
      answers = ended_told (g.A.EventApp.event_of c.self.inside.app c.self.inside.size) c.self.inside.past c.self.inside.lines _ done.0 done.1;
      shows = record { got = []; taken = sym (ahead_nil _); shows = tt };
      asks = record { got = []; taken = sym (ahead_nil _); last = c.self.inside.lines.ended; asks = not_yet; ends = refl };
    }
