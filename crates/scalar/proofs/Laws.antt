-- What the proofs of this crate share, and what a caller may use.
pub mod Wrap
pub mod Twos
pub mod Saturate
pub mod Integers
pub mod Exact
pub mod Lanes
pub mod Wide
