pub mod Appending
pub mod Words
pub mod Decimals
pub mod Signs
pub mod Unique
pub mod Examples
