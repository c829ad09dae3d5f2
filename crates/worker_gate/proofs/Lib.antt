-- Lists that are cut into parts.
pub mod Cutting
-- The counters of parts, and the parts that a worker is at in its turns.
pub mod Ordering
pub mod Sharing
pub mod Stages
