-- The definitions of two readers on one form.
pub mod Owners
pub mod Field
