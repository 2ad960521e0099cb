pub mod Lines
pub mod Showing
pub mod Zeros
pub mod Unique
