pub mod Ids
pub mod Guarded
pub mod Keys
pub mod Placed
