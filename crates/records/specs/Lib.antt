-- The definitions of session records.
pub mod Records
pub mod Forms
