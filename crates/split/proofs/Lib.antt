pub mod Contents
pub mod Sections
pub mod Outcomes
pub mod Sides
pub mod Same
pub mod Neighbours
