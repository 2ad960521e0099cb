-- What only contracts inside the crate cite; no promise to a user does.
pub mod Kinds
pub mod Stack
pub mod Blocks
pub mod Judging
pub mod Parts
pub mod Going
pub mod Coming
