-- What the mixing promise speaks of.
pub mod Event
pub mod Mix
