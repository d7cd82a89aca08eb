-- Laws that no one function owns, in reading order. `Fitting`, `Args` and `Thunks` are for callers. Assumes nothing.
pub mod Part
pub mod Table
pub mod Reading
pub mod Fitting
pub mod Thunks
