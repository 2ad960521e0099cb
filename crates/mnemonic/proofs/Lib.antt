pub mod Letters
pub mod Ids
pub mod Table
pub mod Names
pub mod Unique
