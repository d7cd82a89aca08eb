-- Laws of counts, of what is reached and of the gate. Assumes nothing.
pub mod Gate
pub mod Words
pub mod Reach
pub mod Run
pub mod Visits
pub mod Turns
