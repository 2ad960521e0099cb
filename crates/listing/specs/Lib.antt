pub mod Line
pub mod Listing
pub mod Aside
pub mod Walk
pub mod Inner
