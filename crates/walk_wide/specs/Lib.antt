pub mod Wide
pub mod WideLaws
