-- The definitions of sessions.
pub mod Session
pub mod Parts
pub mod Loop
