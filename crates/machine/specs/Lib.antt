pub mod Value
pub mod Memory
pub mod Exec
pub mod Accesses
pub mod Answer
pub mod Inner
