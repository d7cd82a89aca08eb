-- Laws that the proofs of the functions cite. Assumes nothing.
pub mod Args
pub mod Rows
