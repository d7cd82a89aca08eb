-- Definitions that the contracts cite. Assumes nothing.
pub mod Steps
pub mod Words
pub mod Intern
