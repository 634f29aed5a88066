pub mod Leads
pub mod LeadLaws
pub mod WrapLaws
