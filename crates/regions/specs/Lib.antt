-- What the contracts of all crates that use work words cite. Assumes nothing.
pub mod Regions
