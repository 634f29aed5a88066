pub mod Slots
pub mod SlotLaws
pub mod Flattened
pub mod NodeEdges
pub mod Most
