pub mod InMemory
pub mod Limits
pub mod Told
pub mod SinkWrites
