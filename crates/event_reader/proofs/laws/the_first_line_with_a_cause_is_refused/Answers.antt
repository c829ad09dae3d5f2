use Rattle.event_reader.proofs.FirstLines.{refused_first, first_so_refused}
use Rattle.event_reader.proofs.laws.the_first_line_with_a_cause_is_refused.Goals as goal

pub returns : goal.returns
returns c = λ meaning reading line cause words. (refused_first meaning reading line cause words, first_so_refused meaning reading line cause words)
