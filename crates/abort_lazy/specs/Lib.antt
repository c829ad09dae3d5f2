pub mod Rooms
pub mod Transactions
pub mod Progress
pub mod Finishing
pub mod Sweeps
pub mod Runs
pub mod Levels
pub mod Ended
