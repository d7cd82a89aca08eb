-- What the contracts cite. Assumes nothing.
pub mod Reading
pub mod Iterating
