pub mod Search
pub mod SearchLaws
