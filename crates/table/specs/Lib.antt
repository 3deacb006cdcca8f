-- The definition of a table of the actions.
pub mod Table
