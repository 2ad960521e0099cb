pub mod Layout
pub mod Decode
pub mod Refuses
pub mod Fetch
pub mod Scan
pub mod Encode
pub mod Inner
