-- The laws of the edits: what a text's target is, that a whole page stays whole, and which cells an edit with format on can change.
pub mod Target
pub mod Kept
pub mod Frame
