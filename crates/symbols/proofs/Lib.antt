-- Laws that callers cite: comparisons, runs of words, and the symbols that words hold. Assumes nothing.
pub mod Same
pub mod Words
pub mod Laws
