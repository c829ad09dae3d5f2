pub mod GivenBatches
pub mod Desks
pub mod Ahead
pub mod Rounds
pub mod Verdicts
pub mod Courses
pub mod Bounds
pub mod Tellers
