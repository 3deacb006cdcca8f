-- The theorem, with what is computed for it.
pub mod Sparing
pub mod Witness
pub mod Outcome
pub mod Shared
pub mod Example
pub mod Noise
pub mod Kept
