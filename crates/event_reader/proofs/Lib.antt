-- Bytes cut at each byte that passes a test, and the lines of some bytes.
pub mod Pieces
-- What the kept bytes decide of the first line.
pub mod Decisions
-- Bytes that are moved to the front of a buffer, one by one.
pub mod MovedBytes
-- The parts of a line, taken one by one, and when they are its words.
pub mod Parts
-- The bytes of a buffer between two places, after they were moved and more were read.
pub mod BufferParts
-- How a reader of lines goes on from read to read, and each answer that it gives then.
pub mod LineAnswers
-- Decimal digits, read one by one.
pub mod Digits
-- A line that begins with digits: its first part, and what follows that.
pub mod FirstDigits
-- Timestamps in a rising vector and in a set: which ones are there, and one more.
pub mod TimeSets
-- The reads that a reader of lines makes of its source for one line.
pub mod LineReads
-- How a batch is read line by line, and each answer of the reader.
pub mod BatchAnswers
-- The reads that a reader of batches makes of its source for one batch.
pub mod BatchReads
-- What a line does, by its tests in their order; with one more event a batch stays sound.
pub mod LineSteps
-- What a front of an input decides holds of the whole input, and so does what is read within a limit.
pub mod Fronts
-- The cases of a line's step, each with what the line has to be.
pub mod StepCases
-- The batches of an input without a refused line are the events between its punctuations.
pub mod LineEvents
-- Timestamps rise from batch to batch, and differ within one.
pub mod RisingTimes
-- The refused line is the first with a cause, and its cause is the least that applies.
pub mod FirstRefused
-- The numbers that words say, and whether they are in their ranges.
pub mod NumberLists
-- Lines of one letter and numbers: their words, what these say, and their bytes.
pub mod PlainLines
-- Lines of a form: their ranges and numbers. Kinds that are sound give valid events.
pub mod Forms
-- A draw is below its limit.
pub mod DrawBound
-- No line of a generated text is refused, it has all its events, and it is short enough to be read whole.
pub mod GeneratedLaws
-- A generated text that is given line by line.
pub mod GeneratedLines
-- If a line is refused or the lines are cut off, the batches are the events before each punctuation.
pub mod ClosedBatches
-- The numbers of lines are one greater if one more line comes before them.
pub mod LineNumbers
-- What holds of the lines of one version holds of an input by its first line.
pub mod FirstLines
-- The version of an input is that of its first line, once that was given, and stays.
pub mod InputVersion
-- The keys of a line, one by one, and whether they all differ.
pub mod LineKeys
-- Events of a first operation and one for each of some keys: they are valid if the keys differ.
pub mod Heads
