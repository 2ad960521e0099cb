pub mod Slots
pub mod Image
pub mod Asked
pub mod Inner
