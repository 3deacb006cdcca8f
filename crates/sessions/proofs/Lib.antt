-- The laws of sessions.
pub mod Text
pub mod Listing
pub mod Resuming
pub mod Once
