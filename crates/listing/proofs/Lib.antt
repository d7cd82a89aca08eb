-- Laws that the function's proof cites: the call's answer; the tree in the output; symbols to be listed; the text.
-- Assumes nothing.
pub mod Told
pub mod Tree
pub mod Symbols
pub mod Text
