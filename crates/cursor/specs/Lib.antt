-- The definitions of the cursor: its moves, addressing and tab stops.
pub mod Cursor
pub mod Addressing
pub mod Stops
