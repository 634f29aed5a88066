pub mod Printed
pub mod PrintLaws
pub mod DecimalLaws
pub mod WalkStepLaws
pub mod ReportLineLaws
pub mod ShownWalkLaws
pub mod ReportSizeLaws
