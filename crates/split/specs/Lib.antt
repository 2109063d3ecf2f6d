pub mod Joined
pub mod Store
