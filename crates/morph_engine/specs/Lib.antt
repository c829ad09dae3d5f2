pub mod Caps
pub mod Crews
pub mod Fates
pub mod Accounts
pub mod Exploring
pub mod Runs
pub mod Teams
pub mod Ends
