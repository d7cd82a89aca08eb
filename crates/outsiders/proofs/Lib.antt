-- Laws of lists that grow, for callers too. Assumes nothing.
pub mod Lists
pub mod Offers
