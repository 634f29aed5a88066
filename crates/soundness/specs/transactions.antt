pub mod Operations
pub mod Events
pub mod Statements
