-- Laws that the proofs cite, and those of other crates. Assumes nothing.
pub mod Said
pub mod Reached
