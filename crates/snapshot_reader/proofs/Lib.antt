pub mod Words
pub mod Steps
pub mod Overwrites
pub mod Opens
