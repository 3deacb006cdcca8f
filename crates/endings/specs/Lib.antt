-- The definitions of what a file is asked for.
pub mod Sizes
