pub mod Stages
pub mod StageLaws
pub mod TextEdges
pub mod TextEdgesLaws
