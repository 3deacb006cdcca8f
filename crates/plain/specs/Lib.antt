-- The definition of a host stream by the plain decisions.
pub mod Plain
