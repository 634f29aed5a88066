pub mod ShownReport
pub mod ShownReportLaws
pub mod Answered
