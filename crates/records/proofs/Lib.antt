-- The laws of session records.
pub mod Forms
pub mod Running
pub mod Rooms
pub mod Whole
pub mod Answered
pub mod Once
