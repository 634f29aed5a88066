pub mod Computed
pub mod Starred
pub mod Witnesses
