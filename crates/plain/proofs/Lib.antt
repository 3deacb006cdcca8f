-- The laws of a host stream by the plain decisions.
pub mod Agreement
