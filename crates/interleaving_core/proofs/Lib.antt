-- One changed number, one more entry or settling, and what is counted then.
pub mod Basics
-- What was seen stays true as the state grows, and operations that a step does not touch stay sound.
pub mod Frames
-- The parts of soundness, as one word of an operation gives way to another.
pub mod Parts
-- The steps that make an operation ready, claim it and give it back keep a sound state sound.
pub mod Claiming
-- Versions of sources are values, and settled sources have the fold's values.
pub mod Sources
-- The step that fetches a version of a source keeps a sound state sound.
pub mod Fetching
-- The step that ends an attempt keeps a sound state sound.
pub mod Finishing
-- The steps that spread a failure and roll an operation back keep a sound state sound.
pub mod Retrying
-- A decision on an event is the fold's, and the step that makes it keeps a sound state sound.
pub mod Deciding
-- The step that settles an operation keeps a sound state sound, if its event commits and if it aborts.
pub mod Settlement
-- A list whose elements fall into few classes, few in each, is short.
pub mod Counting
-- Every step and every list of steps keeps a sound state sound, and what such a state comes to.
pub mod Machine
-- As long as an attempt that was shown is the present one, its operation has a record at each place.
pub mod Recorded
-- The lists of `CoreState` as the machine's state, one change to them, and room for what a step adds.
pub mod Storing
-- Versions other than a value: settled ones, and those that were shown.
pub mod Shown
-- The entries of an operation, walked from the last one back, and one more entry.
pub mod Linked
-- The operations of an event, by their place in it.
pub mod Places
-- Bounds on the evaluations, spreads and rollbacks that a run counts.
pub mod Bounds
-- If nothing is spread, the rollbacks after exploring are the operations with a source guessed wrong.
pub mod Stale
-- Each operation that was settled in a committed event was evaluated.
pub mod Committed
-- What was seen of a word or of a record stays true as the state grows.
pub mod Sighting
-- Lists of steps, read from the first and from the last.
pub mod Ordering
