-- Laws of the definitions of this crate, for every crate that speaks of them: bytes and their number, a vector and its lanes, what an operation
-- gives.
pub mod Number
pub mod Lane
pub mod Build
pub mod Scan
pub mod Vectors
