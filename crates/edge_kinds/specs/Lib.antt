pub mod Kinds
pub mod KindLaws
