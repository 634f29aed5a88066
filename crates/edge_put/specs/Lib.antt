pub mod Cursors
pub mod CursorLaws
pub mod Put
pub mod PutLaws
