-- For those who call: what is written, one answer.
pub mod Rewriting
pub mod Unique
-- What these and the functions' proofs lean on.
pub mod Again
pub mod Least
pub mod Puts
pub mod Passing
pub mod Room
