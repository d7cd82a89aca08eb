-- What the functions' proofs cite. Assumes nothing.
pub mod Accepted
pub mod Answering
