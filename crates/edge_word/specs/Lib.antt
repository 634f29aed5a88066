pub mod Coding
pub mod Greatest
