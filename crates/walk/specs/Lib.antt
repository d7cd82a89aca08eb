-- What the walk is to find, what stands in the work words, and the walk's contract. Assumes nothing.
pub mod Faults
pub mod Words
pub mod Walk
