-- Laws of bytes put over an output, for callers too. Assumes nothing.
pub mod Numbers
pub mod Over
pub mod Put
pub mod Wrote
