-- The text of a run: one more batch, the end, and a write that fails in either.
pub mod RunTexts
-- The bytes that a run has taken, and the batches that are closed within them.
pub mod TakenBytes
-- How a run ends, and what is written of it, by the answer that ends it.
pub mod RunEnds
-- What holds between two batches of a run, and how the run ends there.
pub mod RunPoints
-- The headline of a run, from how the run ends.
pub mod Headlines
-- The clauses of the whole call, from those of the run.
pub mod CallClauses
-- How a run ends by its application, and by whether its input is read or made.
pub mod Inputs
-- The tally of the batches that were run: at the start, and with one more batch.
pub mod TallyLaws
-- The notes of a run, with one more batch, and counts of faults.
pub mod NoteLaws
-- What the outputs have after the text and the notes were written, or one of the writes failed.
pub mod OutputLaws
-- What is shown of the balances between two batches, and what was seen beside one.
pub mod Watches
-- The checker's answer to the journal of a run is yes, unless the journal is cut off.
pub mod JournalChecks
-- A batch that is taken between two others: what holds after it, and how a run ends in it.
pub mod TakenBatches
-- How the counts of faults go on in a run, by what ended it.
pub mod FaultLaws
-- The clauses of `program`, from those of the call, and if memory for the words is refused.
pub mod ProgramClauses
-- What holds of a run that reads ahead, between one batch that is written and the next.
pub mod PipedRuns
-- How a run that reads ahead ends, by the tail that its pipe met.
pub mod Tails
-- The state of a run stays within the greatest value of what its reader gives.
pub mod Bounds
-- The calls that a run makes of its reader, one more at a time, and the reads in them.
pub mod ReaderCalls
