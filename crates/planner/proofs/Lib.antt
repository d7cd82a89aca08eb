-- Laws that the proofs of the functions cite, and those of other crates. Assumes nothing.
pub mod Growing
pub mod Operands
pub mod Membership
pub mod Ids
pub mod Taken
pub mod Lasting
pub mod Graphs
pub mod Loaded
pub mod Sites
pub mod Nodes
pub mod Applying
pub mod Binding
pub mod Scoping
pub mod Labels
pub mod LabelScopes
