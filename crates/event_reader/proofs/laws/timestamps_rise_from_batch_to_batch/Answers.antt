use Rattle.std.proofs.Common.{[]}
use Rattle.event_reader.specs.Accepted.{accepted_first}
use Rattle.event_reader.proofs.FirstLines.{first_rises}
use Rattle.event_reader.proofs.RisingTimes.{before_later, times_differ}
use Rattle.event_reader.proofs.laws.timestamps_rise_from_batch_to_batch.Goals as goal

pub returns-clause-later : goal.returns-clause-later
returns-clause-later c = λ meaning reading. before_later 0 (accepted_first meaning 0 [] reading).batches (first_rises meaning reading)

pub returns-clause-apart : goal.returns-clause-apart
returns-clause-apart c = λ meaning reading. times_differ 0 (accepted_first meaning 0 [] reading).batches (first_rises meaning reading)
