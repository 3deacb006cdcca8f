-- The cases that document 01 asks to be proved as one statement.
pub mod Cases
