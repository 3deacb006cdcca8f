-- The definitions of host streams, and of format mode that stays on through one.
pub mod Streams
pub mod Protected
