-- The laws of a table of the actions.
pub mod Test
