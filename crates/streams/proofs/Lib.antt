-- Lemmas. Assumes nothing.
pub mod Taken
pub mod Puts
