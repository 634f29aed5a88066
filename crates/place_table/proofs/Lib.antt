pub mod PutRowLaws
pub mod PlaceRowLaws
pub mod NodeLaws
pub mod LinksLaws
pub mod ProgramLaws
pub mod FillLaws
