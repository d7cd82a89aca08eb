-- What the contracts cite. Assumes nothing.
pub mod Plain
pub mod Siblings
pub mod Saved
