pub mod Size
pub mod LineSizeLaws
