pub mod Thinning
pub mod Thinned
pub mod Folding
