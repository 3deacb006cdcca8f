-- The laws of the cursor.
pub mod Place
pub mod Signed
pub mod Addressing
pub mod Stops
