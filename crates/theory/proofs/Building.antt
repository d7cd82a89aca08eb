-- Building keeps the meaning: the tree of a symbol unfolds to what the symbol stands for, and is checked; and its
-- constants are those of reached symbols.
-- Assumes nothing.
pub mod Reach
pub mod Written
pub mod Blocks
pub mod Numbered
pub mod Given
pub mod Scopes
pub mod Built
pub mod Constants
