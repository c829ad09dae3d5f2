pub mod Limits
pub mod Orders
