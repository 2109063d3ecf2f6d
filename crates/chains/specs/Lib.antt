pub mod Contents
pub mod Entries
pub mod Laws
pub mod Numbers
pub mod State
