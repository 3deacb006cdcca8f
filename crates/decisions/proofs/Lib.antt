-- The laws of the decisions.
pub mod Agreement
