pub mod Overwriting
pub mod Versions
pub mod Summing
