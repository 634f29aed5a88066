pub mod Decided
pub mod Back
pub mod Decide
pub mod DecideLaws
