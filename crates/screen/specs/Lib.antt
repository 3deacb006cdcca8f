-- The definitions of the page and its edits.
pub mod Page
pub mod Whole
pub mod Edits
