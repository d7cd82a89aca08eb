-- What a symbol means, and the laws of that: the bridge between a forest and the written tree. Assumes nothing.
pub mod Mean
pub mod Coincide
