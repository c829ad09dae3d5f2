-- A list that grows by one item at a time, and how many places an operation that was read has.
pub mod Made
-- The numbers of an event's operations, and how many operations the first events have.
pub mod Numbers
-- The values of an operation's sources, read from the values of the operations of earlier events.
pub mod Reading
-- What is still known after a call of the board, and what the words that it loaded show.
pub mod Carrying
-- Each cause for which settling an event stops, and why a lone root is never stopped.
pub mod Stopping
-- One operation is made ready for the decision, whatever its verdict, evaluation and rollback answer.
pub mod Readying
-- An event as a whole: its operations are made ready, it is decided, and they are settled.
pub mod Ending
-- How many answers a runner counts in a call, and in several one after another.
pub mod Answering
-- What is kept of a closed board when its plan is completed: values and verdicts are the fold's.
pub mod Completing
-- What calls in turn keep of a runner, and that each cause that it kept is still true at the end.
pub mod Trying
-- Sums over lists, and over the numbers below n.
pub mod Summing
-- A runner's bursts of numbers at one part of a level, and the events that it tries.
pub mod Sweeping
-- The events of each level of a plan and of its parts, and how many are still to come.
pub mod Levelling
-- A lone root settles all events, level by level.
pub mod Alone
-- A lone root that leaves nothing settles each operation from the word at which it judged it.
pub mod Agreeing
-- One part of a level after another, by one runner.
pub mod Advancing
-- All levels of events, where each runner goes over them by itself, part by part.
pub mod Staging
-- What the root's view has after the hands of idle workers were joined into it.
pub mod Idle
-- What the root's view has of each runner once they are gathered: its trail, and what it saw settled.
pub mod Gathered
-- From what exploring left to settled runners, and to a root that can close the board.
pub mod Concluding
-- The numbers that runners took from a counter: if the last one was taken, each was taken once.
pub mod Taking
-- Over all runners, each event is tried once.
pub mod Once
-- Why events were left, as a closed board shows it: what runners kept are causes, and none is missing.
pub mod Causing
-- Few operations are left if few causes are kept.
pub mod Covering
