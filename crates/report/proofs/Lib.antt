-- The laws of reports.
pub mod Kept
pub mod Once
