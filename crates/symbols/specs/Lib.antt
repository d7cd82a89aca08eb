-- Definitions that the contracts cite. Assumes nothing.
pub mod Words
pub mod Symbols
pub mod Sourced
