-- A runner's turns in a pass: each takes a number from the pass's counter and walks a unit.
pub mod Turning
-- Bursts of numbers that a runner takes, and the walks behind them.
pub mod Bursting
-- What calls in turn keep of a runner: what it reached, its places, and that it is exploring.
pub mod Running
-- The calls of a pass are those of one hand, and settle nothing.
pub mod Further
-- Passes one after another, and that all runners together reached each operation of a level.
pub mod Climbing
-- A lone root explores by levels: in the end every operation ran at attempt 1.
pub mod Lone
-- The level lists of a valid plan: all operations, each above its sources.
pub mod Leveling
-- How exploring begins, and what it hands on.
pub mod Ends
-- How many operations runners rolled back, and which level comes next by that.
pub mod Counting
-- Between passes the first runner empties or loads the level word, and the pass is the same without it.
pub mod Between
-- Passes one after another, each over the level that comes next.
pub mod Ascending
-- A worker and a part of a level.
pub mod Parting
-- A worker that goes over all levels by itself, part by part.
pub mod Going
-- What exploring comes to, under eager and under lazy abort.
pub mod Outcomes
