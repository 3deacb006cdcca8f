-- The laws of two readers on one form.
pub mod Kept
pub mod Readings
pub mod Rooms
pub mod Once
