-- Laws that callers cite: how many; readings; one scope more; thunks; bodies of lambdas. Assumes nothing.
pub mod Counts
pub mod Scopes
pub mod Thunks
pub mod Bodies
