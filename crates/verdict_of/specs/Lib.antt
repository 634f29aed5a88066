pub mod Verdict
pub mod TextVerdict
pub mod Steps
pub mod VerdictLaws
pub mod TextVerdictLaws
