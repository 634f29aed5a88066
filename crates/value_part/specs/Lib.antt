pub mod Parted
pub mod PartSteps
pub mod PartLaws
