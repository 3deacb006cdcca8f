-- The laws of host streams.
pub mod Kept
pub mod Streams
pub mod Rooms
pub mod Answers
pub mod Steps
pub mod Protected
pub mod Once
pub mod Longest
