mod Kept
mod Blocks
pub mod Spaces
pub mod Numerals
