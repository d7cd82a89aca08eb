-- Laws of the walk, callees first. Assumes nothing.
pub mod Words
pub mod Args
pub mod Bridge
pub mod Tests
pub mod Checks
pub mod Any
pub mod Steps
pub mod Ends
pub mod Walking
