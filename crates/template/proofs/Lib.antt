-- What the functions' proofs cite: a forest's line, from what the call tells. Lines is for readers. Assumes nothing.
pub mod Calls
pub mod Lines
