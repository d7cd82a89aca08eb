-- Laws of refusals. Assumes nothing.
pub mod Passing
