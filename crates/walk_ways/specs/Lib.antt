pub mod Ways
pub mod TurnLaws
pub mod WaysLaws
