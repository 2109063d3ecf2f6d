pub mod Orders
pub mod Contents
pub mod Entries
pub mod Outcomes
pub mod Neighbours
