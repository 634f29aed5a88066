pub mod Counted
pub mod CountWords
