-- The settled values and verdicts give the fates of a plan's events.
pub mod Told
-- The keys of a batch are those of its plan.
pub mod InKeys
-- A valid plan has no more levels of events than events.
pub mod EventLevels
-- The cap for each way to abort is small, and so are the numbers of steps that it bounds.
pub mod Caps
-- The new runners of a board: worker w has tag w, and they have loaded, left and joined nothing.
pub mod Preparing
-- How many evaluations and rollbacks one worker counts if it runs a batch alone.
pub mod Alone
-- What was taken was reached, as the closed board shows it: each place of a pass, each item of a deque.
pub mod Reaching
-- What exploring by strata passed over.
pub mod Passing
-- What exploring by deques handed out.
pub mod HandingOut
-- Runners that are set aside while the others explore, and brought back.
pub mod Waiting
-- A batch from its runners at the start to its closed board.
pub mod Ending
-- The account of a batch, from what its closed board shows.
pub mod Accounting
-- The end of a batch, by the number of workers that were prepared.
pub mod Ended
