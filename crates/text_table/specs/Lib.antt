pub mod Tabled
pub mod Taking
pub mod TakingLaws
