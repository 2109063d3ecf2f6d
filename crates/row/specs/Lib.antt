pub mod Partition
pub mod Rings
pub mod Row
