-- What the contracts of bindings cite. Assumes nothing.
pub mod Bindings
pub mod Made
