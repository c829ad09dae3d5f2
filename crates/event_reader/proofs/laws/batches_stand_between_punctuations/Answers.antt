use Rattle.event_reader.proofs.FirstLines.{first_between, first_joined, first_refused, first_cut}
use Rattle.event_reader.proofs.laws.batches_stand_between_punctuations.Goals as goal

pub returns-clause-between : goal.returns-clause-between
returns-clause-between c = λ meaning input. first_between meaning input

pub returns-clause-joined : goal.returns-clause-joined
returns-clause-joined c = λ meaning input. first_joined meaning input

pub returns-clause-refused : goal.returns-clause-refused
returns-clause-refused c = λ meaning reading. first_refused meaning reading

pub returns-clause-cut : goal.returns-clause-cut
returns-clause-cut c = λ meaning reading. first_cut meaning reading
