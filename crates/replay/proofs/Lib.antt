-- Lemmas. Assumes nothing.
pub mod Before
