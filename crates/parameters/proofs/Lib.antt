-- Laws of parameters and definitions, for this crate and for those that call it. Assumes nothing.
pub mod Values
pub mod Counts
