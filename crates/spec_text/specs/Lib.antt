pub mod Text
pub mod Reading
pub mod Value
pub mod NoWorkload
pub mod Quoted
pub mod TextExamples
