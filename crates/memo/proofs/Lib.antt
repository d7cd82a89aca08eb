-- Laws of projections remembered in words, for this crate's functions and for callers. Assumes nothing.
pub mod Laws
pub mod Below
