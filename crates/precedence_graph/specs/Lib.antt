pub mod Entries
pub mod Writers
pub mod Planned
pub mod Links
