pub mod Placed
pub mod PlacedLaws
