-- Notions that several crates share and document 01 has no word for. Assumes nothing.
pub mod Members
pub mod Clear
pub mod ArgLists
pub mod Range
pub mod Slots
pub mod Rows
pub mod Defining
pub mod Frame
pub mod Stack
pub mod Gather
