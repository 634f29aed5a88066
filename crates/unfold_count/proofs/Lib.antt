pub mod RunLaws
pub mod AllLaws
pub mod WordLaws
