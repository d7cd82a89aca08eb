-- What holds at a point of interning, for laws and contracts to cite. Assumes nothing.
pub mod Standing
