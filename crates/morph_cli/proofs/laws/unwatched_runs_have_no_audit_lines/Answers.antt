use Rattle.morph_cli.proofs.NoteLaws.{unwatched_notes}
use Rattle.morph_cli.proofs.laws.unwatched_runs_have_no_audit_lines.Goals as goal

pub returns : goal.returns
returns c = λ s state before done accounts audits off unchecked ran are. unwatched_notes s state before done accounts audits ran are.each (are.unwatched off) unchecked
