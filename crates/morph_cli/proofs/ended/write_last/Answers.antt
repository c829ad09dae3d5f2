use Rattle.morph_cli.proofs.OutputLaws.{ends_with}
use Rattle.morph_cli.proofs.ended.write_last.Goals as goal

pub returns-clause-last : goal.returns-clause-last
returns-clause-last g c =
    ends_with c.write_all.result c.args.line.now (g.N.Sink.written c.args.notes.now) (g.N.Sink.written c.write_all.new.sink) (g.N.Sink.faults c.args.notes.now) (g.N.Sink.faults c.write_all.new.sink)
    c.write_all.ensures.all c.write_all.ensures.steady c.write_all.ensures.prefix c.write_all.ensures.cause
