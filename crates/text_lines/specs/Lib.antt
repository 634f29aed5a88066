pub mod GoingLaws
pub mod Span
