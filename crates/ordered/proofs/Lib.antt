pub mod Sorted
pub mod Effects
pub mod Neighbours
pub mod Calls
