-- Laws that callers cite: runs of stores, and symbols in words. Assumes nothing.
pub mod Laws
