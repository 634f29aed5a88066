pub mod LastWord
pub mod StageLaws
pub mod Middle
pub mod ReadLaws
pub mod EdgesLaws
pub mod Linked
pub mod LinkedLaws
