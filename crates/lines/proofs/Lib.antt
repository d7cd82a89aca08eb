-- Laws of the lister's text, for this crate and for those that call it. Assumes nothing.
pub mod Line
pub mod Lines
pub mod Savings
pub mod Rules
