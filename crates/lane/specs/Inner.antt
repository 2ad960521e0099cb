-- What only contracts inside this crate cite; no promise to a caller does.
pub mod Does
pub mod Put
pub mod Words
