pub mod Told
pub mod Found
