-- Definitions that the contracts cite. Assumes nothing.
pub mod Starts
pub mod Tables
