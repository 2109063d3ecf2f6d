pub mod Order
pub mod Gather
pub mod Mix
pub mod Letters
pub mod Length
