pub mod Layers
pub mod FilledLaws
pub mod LayerLaws
pub mod Search
pub mod SearchLaws
