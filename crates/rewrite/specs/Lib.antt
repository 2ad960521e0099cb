pub mod Rewrite
pub mod Shortened
pub mod Inner
