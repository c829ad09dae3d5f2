use Rattle.std.proofs.Common.{subst}
use Rattle.morph_cli.specs.Status.{EndsWith}
use Rattle.morph_cli.proofs.ended.end_run.Goals as goal

pub returns-clause-last : goal.returns-clause-last
returns-clause-last g c =
    subst (λ l. EndsWith l (g.N.Sink.written c.args.notes.now) (g.N.Sink.written c.write_last.new.notes) (g.N.Sink.faults c.args.notes.now) (g.N.Sink.faults c.write_last.new.notes)) c.note_of.ensures c.write_last.ensures.last
