-- Laws of scopes in words, for this crate's functions and for callers. Assumes nothing.
pub mod Bits
pub mod Laws
pub mod Climb
pub mod Open
