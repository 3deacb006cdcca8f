-- The laws of fields.
pub mod Marks
pub mod Kind
pub mod Fields
pub mod Starts
pub mod Numbers
pub mod Scans
