pub mod Bounds
pub mod Scalar
