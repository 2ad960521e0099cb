-- For those who call: exactness, round trip, what encoding does not read, bounds, one answer.
pub mod Stands
pub mod Refuses
pub mod Encodes
pub mod Lacking
pub mod Ranges
pub mod Unique
-- What these and the functions' proofs lean on.
pub mod Versions
pub mod Classes
pub mod Items
pub mod Numbers
pub mod Memory
pub mod Onward
pub mod Over
pub mod Named
pub mod Sixteens
pub mod Sets
pub mod Forms
pub mod Fields
pub mod Places
pub mod Decodes
pub mod Finds
pub mod Parts
