-- The mixing theorem: `Summing` has it over any machine, `CellMixing` over a machine of cells, `Changes` the law of a sum of what changes, `Mixes` that no mix is
-- left out, `Unseen` what events leave undisturbed that write no cell but those of hidden fields, `Replaced` that events may be replaced by others which do the same.
pub mod Unwind
pub mod Events
pub mod Mixes
pub mod Machine
pub mod Mixing
pub mod Summing
pub mod View
pub mod Cellwise
pub mod Steps
pub mod CellMixing
pub mod Changes
pub mod Unseen
pub mod Replaced
