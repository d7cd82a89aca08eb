-- What the reader's contracts cite. Assumes nothing.
pub mod Held
