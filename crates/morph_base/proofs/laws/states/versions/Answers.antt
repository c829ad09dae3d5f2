use Rattle.morph_base.proofs.EndLaws.{end_written, end_unwritten, overwritten-state_at}
use Rattle.morph_base.proofs.VersionLaws.{events_until}
use Rattle.morph_base.proofs.laws.states.versions.Goals as goal

pub returns : goal.returns
returns c = record {
  written = end_written;
  unwritten = end_unwritten;
  overwritten = λ p s n i valid based few before rest. overwritten-state_at p s n i valid based (few, before, rest);
  until = events_until;
}
