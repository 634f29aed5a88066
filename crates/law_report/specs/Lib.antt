pub mod ShownWalk
pub mod Reports
pub mod One
pub mod ReportCases
