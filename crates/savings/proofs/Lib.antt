-- Laws of the savings of definitions: Sum has the theorem. Assumes nothing.
pub mod Join
pub mod Charge
pub mod Sum
pub mod Plain
pub mod Rows
pub mod Siblings
