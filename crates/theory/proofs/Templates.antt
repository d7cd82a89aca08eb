-- Every filling of a template: the pass commutes with filling. Literals of constants are looked at in one place only, the
-- comparison of keys, and there filling keeps which are the same (Records); so each part of the pass goes along: checks
-- (Checks), searches (Keys), interning (Answers, Symbols, Walk), usage, gate and orders (Orders), building (Building), and
-- so does the meaning (Unfolding). Values: what a template is, for interning. Main joins them; Line is of the program's
-- line. Assumes nothing.
pub mod Records
pub mod Checks
pub mod Values
pub mod Keys
pub mod Answers
pub mod Symbols
pub mod Walk
pub mod Orders
pub mod Building
pub mod Unfolding
pub mod Main
pub mod Line
