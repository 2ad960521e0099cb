-- What only contracts inside the crate cite; no promise to a user does.
pub mod Parts
pub mod Pass
