-- Laws of checks 2 to 10 and 16. Assumes nothing.
pub mod Directory
pub mod Rows
pub mod Closing
pub mod OneShape
pub mod Accepting
pub mod Ends
