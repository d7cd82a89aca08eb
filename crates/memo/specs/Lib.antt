-- What the contracts of memo cite. Assumes nothing.
pub mod Memo
