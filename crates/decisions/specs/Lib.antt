-- The definition of the plain reader.
pub mod Decisions
