-- Laws of texts in a buffer, of a record's texts and of trees' lines. Assumes nothing.
pub mod Clipping
pub mod Lines
pub mod Trees
