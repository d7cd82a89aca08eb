-- What the call promises: which numbers interning refuses with, that no use of id 0 is written, that no opcode, other than
-- 00, is written with two shapes, that the written tree keeps the meaning and is accepted, that what the Rust guards by a
-- panic is never met, what the lister's usage counts, which parameter a value came from, and that each definition of the
-- written tree has its label. Assumes nothing.
pub mod Refusals
pub mod Uses
pub mod OneShape
pub mod Main
pub mod Unreachable
pub mod Usage
pub mod Parameters
pub mod Definitions
