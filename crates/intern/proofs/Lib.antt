-- Laws that the function proofs cite. Assumes nothing.
pub mod Kept
pub mod After
pub mod Weight
pub mod Remains
pub mod Reading
pub mod Bodies
pub mod Records
pub mod Repeats
pub mod Cases
pub mod Gives
pub mod Lambdas
pub mod Single
pub mod Thunks
pub mod Roots
