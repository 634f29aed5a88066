pub mod Dependency
pub mod DependencyLaws
pub mod Ordered
pub mod Positions
pub mod SerialLaw
pub mod History
