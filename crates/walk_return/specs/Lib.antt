pub mod Returns
pub mod MeetingLaws
