-- The laws of reading.
pub mod Computed
pub mod Rules
pub mod Numbers
