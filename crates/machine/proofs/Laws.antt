-- What the proofs of this crate share.
pub mod Copy
pub mod Stored
pub mod Rep
pub mod Pops
pub mod Ranges
pub mod Update
pub mod Numbers
pub mod LowHalf
pub mod Taken
