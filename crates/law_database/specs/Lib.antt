pub mod Disturbs
pub mod PlaceEdges
pub mod Undisturbed
pub mod Performed
pub mod LinesPlaced
pub mod Examples
