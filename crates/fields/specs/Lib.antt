-- The definitions of fields.
pub mod Fields
pub mod Walk
