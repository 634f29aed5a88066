pub mod MarkLaws
pub mod PutLaws
