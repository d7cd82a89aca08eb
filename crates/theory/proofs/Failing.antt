-- Failing operations: if the root of a forest of one tree with no lambda and no SelectField has a value, the written tree
-- has that value. A symbol has a value of its own (Values); scopes that are entered while the root's value is found hold
-- symbols with values only (Live). Interning shows that of all that it makes: of a child in its own thunk (Thunks), of an
-- operation (Symbols), of operands (Operands), and so of trees (Walk). Building needs no more (Building). Main joins them.
-- Assumes nothing.
pub mod Values
pub mod Live
pub mod Thunks
pub mod Symbols
pub mod Operands
pub mod Walk
pub mod Building
pub mod Main
