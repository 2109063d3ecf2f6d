pub mod Links
pub mod Cells
pub mod Store
