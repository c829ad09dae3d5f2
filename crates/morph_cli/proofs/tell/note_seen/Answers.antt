use Rattle.std.proofs.Common.{ap, sym}
use Rattle.run_text.proofs.Pieces.{write_as, write_nothing}
use Rattle.morph_cli.specs.Outputs.{audit_of}
use Rattle.morph_cli.proofs.tell.note_seen.Goals as goal

pub returns-in-Some-clause-text : goal.returns-in-Some-clause-text
returns-in-Some-clause-text g c =
    let does = c.note_audit.ensures in
    write_as (ap audit_of (sym c.in-Some.is)) (record { all = does.written; prefix = does.prefix; never_falls = does.never_falls; steady = does.steady; cause = does.cause })

pub returns-in-None-clause-text : goal.returns-in-None-clause-text
returns-in-None-clause-text g c = write_as (ap audit_of (sym c.in-None.is)) (write_nothing c.args.notes.now)
