pub mod Records
pub mod StateSteps
pub mod StateWords
pub mod StateWordsLaws
pub mod StartLaws
