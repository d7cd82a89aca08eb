-- Definitions that the contracts cite. Assumes nothing.
pub mod Graph
pub mod Tests
