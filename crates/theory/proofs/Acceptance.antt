-- What acceptance says of a forest, and that the bytes of a checked tree are accepted. Assumes nothing.
pub mod Checked
pub mod Records
pub mod Each
pub mod Accept
pub mod OneShape
pub mod Bytes
