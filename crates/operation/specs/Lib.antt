pub mod Shape
pub mod Vector
pub mod Op
pub mod Exact
