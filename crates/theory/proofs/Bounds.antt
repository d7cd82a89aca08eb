-- What code relies on: limits and low numbers at every point of interning (Sound to Limits); and what is written are
-- bytes (Writing). Assumes nothing.
pub mod Sound
pub mod Steps
pub mod Kinds
pub mod Trees
pub mod Limits
pub mod Writing
