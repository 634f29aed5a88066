pub mod Event
pub mod Schedule
pub mod Serial
pub mod ScheduleExamples
