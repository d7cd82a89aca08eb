-- What `standing` and the contracts of `intern` cite of the theory. Assumes nothing.
pub mod Checked
pub mod Good
pub mod Inv
pub mod Sound
