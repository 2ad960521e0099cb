pub mod Unique
pub mod Writing
