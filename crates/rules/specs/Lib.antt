pub mod Header
pub mod Typing
pub mod Strip
pub mod Around
pub mod Consists
pub mod Breach
pub mod Core
pub mod One
