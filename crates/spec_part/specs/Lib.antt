pub mod Group
pub mod GroupExamples
pub mod Arm
pub mod ArmExamples
