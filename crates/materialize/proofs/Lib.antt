-- Laws that the proofs of the functions cite, and those of other crates. Assumes nothing.
pub mod Parts
pub mod Root
