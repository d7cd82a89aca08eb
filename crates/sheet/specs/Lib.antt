-- What the contracts cite, in reading order. Assumes nothing.
pub mod Clip
pub mod Shown
