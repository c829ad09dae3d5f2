-- What calls of the board add to a view, one after another.
pub mod Following
-- The list of steps of one evaluation, and which of them a count leaves out.
pub mod Stepping
-- How an operation is evaluated, call by call.
pub mod Holding
-- A blocked operation is evaluated by one call.
mod Attempting
-- How the runners of a board begin, and how their hands are joined, one after another.
pub mod Seating
-- New runners can be explored with.
pub mod Beginning
-- A runner that went further, and then further again, is further than at first.
pub mod Further
-- What a lone root evaluates: each operation whose sources have run, at attempt 1.
pub mod Alone
-- One more answer raises a runner's total by one, up to the greatest number.
pub mod Totals
-- If an operation was evaluated as failed, its failure is shown.
pub mod Showing
-- Calls in turn after other calls in turn, and one number taken from a counter.
pub mod Turns
-- The first element of a list, its later ones, and those that pass a test.
pub mod Elements
-- A runner that tries an operation is still exploring.
pub mod Answering
