-- The laws of looking before writing.
pub mod Pages
