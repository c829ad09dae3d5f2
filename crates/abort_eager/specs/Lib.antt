pub mod Grounds
pub mod Targets
pub mod Finding
pub mod Popping
pub mod Touching
pub mod Sweeps
pub mod Walks
