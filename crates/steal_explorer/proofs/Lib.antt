-- Each call on a deque keeps its rule.
pub mod Holds
-- Steals from one deque after another.
pub mod Stealing
-- What a pop, a steal and a push leave of a worker's deque and tickets.
pub mod Owning
-- Calls in turn, and what they and pushes make of a worker.
pub mod Going
-- Cascades after evaluations: one target after another, and what was rolled back is asked.
pub mod Cascading
-- Attempts with the cascades that follow them, in which nothing is asked or pushed.
pub mod Quietly
-- The dependents of an operation of a valid plan are those that have it as a source.
pub mod Depending
-- Turns one after another, up to 64 in a row that found nothing, or to the most turns.
pub mod Turning
-- The places of a list, and one element of it that changes.
pub mod Places
-- Workers give back their tickets, and each gets all parts of its deque.
pub mod Returning
-- Calls in turn are those of one hand, and settle nothing.
pub mod Further
-- After calls in turn a runner is still exploring, and has taken no number from a counter.
pub mod Keeping
-- What turns show: each item that was taken was tried and reached, and answers count it.
pub mod Telling
-- What is left in deques is popped until none is there.
pub mod Emptying
-- What was handed out, from the turns of all workers to deques that are empty.
pub mod Outcome
-- Runners are put beside their deques, the last first, and taken back.
pub mod Sitting
-- The operations of level 1 of a plan.
pub mod Beginning
-- Items are dealt to deques in turn, each once.
pub mod Dealt
-- Workers get tickets of one another's deques.
pub mod Lent
-- Deques that were opened, dealt and lent are ready for exploring.
pub mod Prepared
-- What was in the deques at first is among what was pushed in the end.
pub mod Pushing
-- Items by their numbers: they are few if none comes twice, and weigh as all numbers if each comes once.
pub mod Counting
-- How far each operation is with a lone root, call by call: waiting, queued or gone.
pub mod Standing
-- A lone root's deque, call by call: an operation that was made ready is pushed once.
pub mod Queueing
-- The turns of a lone root, which end with 64 in a row that found nothing.
pub mod Lonely
-- What a lone root leaves: each operation was pushed, popped, and ran.
pub mod Leaving
-- How far each operation is before a lone root begins: those of level 1 were pushed, the others wait.
pub mod Starting
-- From what workers begin with to the clauses of `explore`: balance, what was reached, and counts.
pub mod Closing
