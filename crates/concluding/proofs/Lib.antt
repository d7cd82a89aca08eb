-- Laws of the steps that conclude a record. `Selecting` and `Children` have laws for callers. Assumes nothing.
pub mod Children
pub mod Nodes
pub mod Selecting
