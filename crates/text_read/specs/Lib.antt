pub mod Parse
pub mod ParseLaws
pub mod RefusedLaws
