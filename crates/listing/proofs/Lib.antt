-- For those who call: worked lines, what is listed, one answer, a loop over the lines.
pub mod Examples
pub mod Exact
pub mod Unique
pub mod Following
pub mod Lines
-- What these and the functions' proofs lean on.
pub mod Fields
pub mod Spellings
pub mod Asides
pub mod Words
pub mod Parts
pub mod Shown
pub mod Chain
pub mod Walking
pub mod Passing
pub mod Answers
