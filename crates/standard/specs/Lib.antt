pub mod Closing
pub mod Standard
pub mod Safety
pub mod One
pub mod Exponents
pub mod Inner
