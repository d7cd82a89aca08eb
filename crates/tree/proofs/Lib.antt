-- Lemmas. Assumes nothing.
mod Told
