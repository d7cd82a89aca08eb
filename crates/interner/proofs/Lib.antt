-- Laws that callers cite: levels and deps; words kept; new symbols, found symbols, arguments, projections; the start.
-- Assumes nothing.
pub mod Levels
pub mod Tracks
pub mod Same
pub mod Pushing
pub mod Sharing
pub mod Ready
pub mod Keys
pub mod Arguments
pub mod Memos
pub mod Keeps
pub mod Fields
pub mod Starting
