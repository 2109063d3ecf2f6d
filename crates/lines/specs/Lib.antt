pub mod Buffer
pub mod Fields
pub mod Number
pub mod Position
pub mod Reader
