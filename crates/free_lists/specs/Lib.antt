-- Definitions that the contracts cite. Assumes nothing.
pub mod FreeLists
