use Rattle.std.proofs.Common.{◌∙◌, ap, sym}
use Rattle.morph_io.specs.Told.{behind, behind_nil}
use Rattle.morph_engine.specs.Fates.{settled_fates}
use Rattle.run_text.specs.Text.{told_lines}
use Rattle.run_text.proofs.output.write_events.Goals as goal

pub returns-in-Summary-clause-written : goal.returns-in-Summary-clause-written
returns-in-Summary-clause-written g c =
    sym (behind_nil (g.K.Sink.written c.args.sink.now))
    ∙ ap (λ r. behind (g.K.Sink.written c.args.sink.now) (told_lines r (settled_fates c.args.end.now.plan c.args.end.now.settled))) (sym c.in-Summary.is)
