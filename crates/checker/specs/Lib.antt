pub mod Check
pub mod Walk
pub mod Survey
pub mod Inner
