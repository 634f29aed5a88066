pub mod Reported
pub mod ReportedLaws
pub mod Crown
pub mod Refused
