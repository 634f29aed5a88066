pub mod Printable
pub mod Joined
pub mod Texts
pub mod Givens
pub mod Unique
