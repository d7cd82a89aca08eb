-- Definitions that the contracts cite. Assumes nothing.
pub mod Levels
pub mod State
pub mod Step
