-- What the functions' proofs cite. Assumes nothing.
pub mod Mixed
pub mod Text
