-- The definitions of byte memories: ranges, searches, and what the writing loops leave.
pub mod Range
pub mod Search
pub mod Memory
