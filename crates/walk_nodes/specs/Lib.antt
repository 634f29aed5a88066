pub mod Nodes
pub mod NodeWordLaws
