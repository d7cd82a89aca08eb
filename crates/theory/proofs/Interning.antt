-- Interning keeps the meaning: the root's symbol stands for the root. Records is of symbols' records alone: what each of them
-- has. Reread is for code: what opens no scope gives the same when it is read again. Assumes nothing.
pub mod Good
pub mod Inv
pub mod Push
pub mod Finish
pub mod Fresh
pub mod Scopes
pub mod Lambda
pub mod Keep
pub mod Fields
pub mod Body
pub mod Operands
pub mod Walk
pub mod Interned
pub mod Records
pub mod Reread
