pub mod Calls
pub mod Walks
pub mod Passes
pub mod Levels
pub mod Parts
pub mod Outcomes
