-- The laws of cells that change.
pub mod Patches
pub mod Rows
pub mod Moves
