pub mod Decimal
pub mod Words
pub mod Append
