-- Definitions that the contracts cite. Assumes nothing.
pub mod Grew
pub mod Building
pub mod Sources
pub mod Planning
