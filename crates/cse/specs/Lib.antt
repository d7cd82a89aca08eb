-- Definitions that the contracts cite. Assumes nothing.
pub mod Call
pub mod Check
