-- What only contracts inside the project cite; no promise to a user does.
pub mod Flat
pub mod Fit
pub mod Rep
