pub mod KeyOrder
pub mod Insertion
pub mod Chaining
pub mod Partition
pub mod Entering
pub mod Singles
