-- Laws that the functions' proofs cite: work words; answers; demand 3; symbols that a tree can be built from; a planned
-- tree. Told is for those that call. Assumes nothing.
pub mod Words
pub mod Alone
pub mod Telling
pub mod Demanding
pub mod Buildable
pub mod Planning
pub mod Told
