pub mod Places
pub mod Entries
pub mod LeastSteps
pub mod Tables
pub mod PickedVerdict
