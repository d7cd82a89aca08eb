-- Laws of text, for this crate and for those that call it. Assumes nothing.
pub mod Numbers
pub mod Line
