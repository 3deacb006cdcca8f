-- The laws of runs of host bytes.
pub mod Texts
pub mod Sequences
