pub mod Meter
pub mod Call
pub mod Run
pub mod Resume
pub mod Slices
pub mod Told
pub mod Inner
