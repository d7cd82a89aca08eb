-- What a check of a forest answers. Assumes nothing.
pub mod Accepted
pub mod Codec
