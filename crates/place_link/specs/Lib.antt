pub mod LinkLaws
pub mod Links
