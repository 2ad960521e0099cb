-- What the proofs of this crate share. A caller cites `Values`, and `Unique` beside this; laws of vectors and operations are operation's.
pub mod Values
pub mod Build
pub mod Either
pub mod Bitwise
pub mod Words
pub mod Ones
pub mod Signs
pub mod Replace
pub mod Any
pub mod Answers
