pub mod Cascade
pub mod Lists
pub mod Rings
pub mod Rooms
pub mod Shifts
pub mod Windows
