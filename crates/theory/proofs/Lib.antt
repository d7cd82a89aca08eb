-- Demand 3 over the definitions, proved: Demand3 states it and is read first; the folders prove it, in the order of the
-- argument. Bounds is for code: what a state of interning holds, and that what is written are bytes. Templates has a
-- theorem of its own: what is seen on a template holds of every filling. So has Failing: the written tree has the root's
-- value, where operations may fail. docs/PROOF.md is the map. Assumes nothing.
pub mod Demand3
pub mod Meaning
pub mod Acceptance
pub mod Interning
pub mod Building
pub mod Bounds
pub mod Promise
pub mod Templates
pub mod Failing
