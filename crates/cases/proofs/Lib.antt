-- The rules to compute with, and the cases, computed.
pub mod Rules
pub mod Computed
