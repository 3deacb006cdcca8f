-- The laws of sets of rows, and of the rows in which two memories differ.
pub mod Digits
pub mod Sets
pub mod Words
pub mod Differing
