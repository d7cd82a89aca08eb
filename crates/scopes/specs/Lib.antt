-- What the contracts of scopes cite. Assumes nothing.
pub mod Levels
pub mod Scopes
pub mod Relation
