-- The public functions' promises, and the laws for those who call them.
pub mod Exact
pub mod Forms
pub mod Puts
pub mod Unique
pub mod Bounds
pub mod LastBytes
-- What these lean on.
pub mod Arith
pub mod Grammars
pub mod Widths
pub mod Reader
pub mod ReadLoop
pub mod WriteLoops
