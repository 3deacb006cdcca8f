-- The laws of replies.
pub mod Writing
pub mod Blocks
pub mod Longest
