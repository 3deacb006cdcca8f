-- The definitions of reading: the actions, and the rules by which a host byte asks for one.
pub mod Action
pub mod Reading
