-- Laws of the graph in the words, for callers too. Assumes nothing.
pub mod Laws
