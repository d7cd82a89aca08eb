-- Laws of free lists in the words, for callers too. Assumes nothing.
pub mod Filed
pub mod Laws
pub mod Giving
pub mod Keeping
pub mod Above
