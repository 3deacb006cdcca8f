-- The laws of byte memories.
pub mod Choices
pub mod Finds
pub mod Search
pub mod Patch
pub mod Splice
pub mod Values
pub mod Frame
