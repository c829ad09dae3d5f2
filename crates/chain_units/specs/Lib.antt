pub mod Chains
pub mod Units
pub mod Places
pub mod Cuts
