pub mod State
pub mod Area
pub mod Report
pub mod SmallestWalk
pub mod ReportExamples
pub mod ReportLaws
pub mod Refusals
