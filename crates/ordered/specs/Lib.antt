pub mod Sorted
pub mod Store
