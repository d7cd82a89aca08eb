-- Laws of the written tree with labels, and of the rules beside symbols. Erased says what it is without labels, Steps
-- which symbols it defines, for code that plans it; Records what holds of each record that is made; Blocks where
-- definitions stand, Rules which rule is said of a symbol that has one, Counted how many there are. Assumes nothing.
pub mod Erased
pub mod Steps
pub mod Records
pub mod Blocks
pub mod Rules
pub mod Counted
