pub mod Replay
pub mod Answers
pub mod Lines
pub mod LineEvents
